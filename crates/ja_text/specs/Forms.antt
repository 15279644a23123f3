-- A form at the front of bytes.
use Rattle.std.specs.Prelude.{◌≡◌, ℕ, List, ◌++◌}

-- the bytes are a text of the form, and behind it the rest
pub record BeginsWith (Form : List ℕ → Type 0) (bytes rest : List ℕ) : Type 0 where
  pub text : List ℕ
  pub form : Form text
  pub parts : bytes ≡ text ++ rest
