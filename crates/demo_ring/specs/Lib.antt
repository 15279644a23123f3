pub mod DemoText
pub mod DemoParts
