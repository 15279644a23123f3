-- What a seat tells.
use Rattle.std.specs.Prelude.{◌≡◌, ℕ, ◌≤◌}

-- its number, how many seats were split off, and how many of these were joined
pub record SeatValue : Type 0 where
  pub number : ℕ
  pub made : ℕ
  pub joined : ℕ

-- at most eight seats were split off, and no more joined than these
pub record IsWithin (seat : SeatValue) : Type 0 where
  pub few : seat.made ≤ 8
  pub joined : seat.joined ≤ seat.made

-- the seat after an event or none: it is the same one, and it made and joined the same seats
pub record IsLater (before now : SeatValue) : Type 0 where
  pub number_is : now.number ≡ before.number
  pub made_is : now.made ≡ before.made
  pub joined_is : now.joined ≡ before.joined

-- the seat of `start`, which joined all that it made
pub record IsLast (seat : SeatValue) : Type 0 where
  pub number_is : seat.number ≡ 0
  pub joined_is : seat.joined ≡ seat.made
