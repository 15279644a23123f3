-- Which words are in a command's form, and what they ask for. The first word names the command, and `clap` reads the others by
-- the command's arguments; numbers are read from the texts that it gives.
use Rattle.std.specs.Prelude.{ℕ, ◌==◌, ◌&&◌, Bool, false, nat_le, if◌then◌else◌, List, [], ◌∷◌, length, Option, Some, None, option_map, bytes_eq, codes}
use Rattle.clap.specs.Words.{App, Row, fault_of, first_of, matches_of}
use Rattle.ja_text.specs.Numbers.{number_at}
use Rattle.ja_text.specs.Numbers as numbers
use Rattle.ja_words.specs.declared.words.TheConstants as words
use Rattle.ja_words.specs.Commands.{confirm_app, demo_app, sign_app}

-- the names of the files of `confirm`; that of the expectations may be left out
pub record Names : Type 0 where
  pub design : List ℕ
  pub stim : List ℕ
  pub expect : Option (List ℕ)

-- What `sign` is asked for: the names of its files, of which that of the expectations may be left out, how many work at once, the
-- units that may be spent on one property, whether the first failure of what is expected to hold ends the run, and whether the
-- journal is shown.
pub record Order : Type 0 where
  pub design : List ℕ
  pub expect : Option (List ℕ)
  pub workers : ℕ
  pub budget : ℕ
  pub fail_fast : Bool
  pub journal : Bool

-- what `demo` is asked for: how many latches its ring has, and how many work at once
pub record Demo : Type 0 where
  pub n : ℕ
  pub workers : ℕ

-- what words ask for
pub data Command : Type 0 where
  ToConfirm : Names → Command
  ToSign : Order → Command
  ToDemo : Demo → Command

-- the number, if it is from `least` to `most`
abbrev pub in_range : ℕ → ℕ → Option ℕ → Option ℕ
in_range least most None = None
in_range least most (Some n) = if nat_le least n && nat_le n most then Some n else None

-- the number that a word names, from `least` to `most`; without a word there is none
abbrev pub named_number : ℕ → ℕ → Option (List ℕ) → Option ℕ
named_number least most None = None
named_number least most (Some text) =
    in_range least most (numbers.whole_number (number_at text))

-- the number that a word names, from 1 to `most`; without a word it is this one
abbrev pub number_or : ℕ → ℕ → Option (List ℕ) → Option ℕ
number_or plain most None = Some plain
number_or plain most (Some text) = in_range 1 most (numbers.whole_number (number_at text))

-- the switch was given
abbrev pub is_on : Option (List ℕ) → Bool
is_on None = false
is_on (Some text) = bytes_eq text (codes "true")

-- the order, if there is a design and the numbers are in range
abbrev pub order_from : Option (List ℕ) → Option (List ℕ) → Option ℕ → Option ℕ → Bool → Bool
    → Option Order
order_from None expect workers budget fail_fast journal = None
order_from (Some design) expect None budget fail_fast journal = None
order_from (Some design) expect (Some workers) None fail_fast journal = None
order_from (Some design) expect (Some workers) (Some budget) fail_fast journal = Some (record {
  design = design;
  expect = expect;
  workers = workers;
  budget = budget;
  fail_fast = fail_fast;
  journal = journal;
})

-- what the words behind `sign` ask for, as they were read
abbrev pub order_of : List Row → Option Order
order_of rows = order_from (first_of (codes "design") rows) (first_of (codes "expect") rows)
    (number_or 1 8 (first_of (codes "workers") rows))
    (number_or words.PLAIN_BUDGET words.PLAIN_BUDGET (first_of (codes "budget") rows))
    (is_on (first_of (codes "fail-fast") rows)) (is_on (first_of (codes "journal") rows))

-- the names, if there are those of a design and a stimulus
abbrev pub names_from : Option (List ℕ) → Option (List ℕ) → Option (List ℕ) → Option Names
names_from None stim expect = None
names_from (Some design) None expect = None
names_from (Some design) (Some stim) expect =
    Some (record { design = design; stim = stim; expect = expect })

-- what the words behind `confirm` ask for, as they were read
abbrev pub names_of : List Row → Option Names
names_of rows = names_from (first_of (codes "design") rows) (first_of (codes "stim") rows)
    (first_of (codes "expect") rows)

-- the size and the workers, if both are in range
abbrev pub demo_from : Option ℕ → Option ℕ → Option Demo
demo_from None workers = None
demo_from (Some n) None = None
demo_from (Some n) (Some workers) = Some (record { n = n; workers = workers })

-- what the words behind `demo` ask for, as they were read
abbrev pub demo_of : List Row → Option Demo
demo_of rows = demo_from (named_number 3 1000 (first_of (codes "n") rows))
    (number_or 1 8 (first_of (codes "workers") rows))

-- the command takes the words
abbrev pub is_taken : App → List (List ℕ) → Bool
is_taken app rest = length (fault_of app rest) == 0

-- what words behind `sign` ask for
abbrev pub sign_order : List (List ℕ) → Option Order
sign_order rest = if is_taken sign_app rest then order_of (matches_of sign_app rest) else None

-- what words behind `confirm` ask for
abbrev pub confirm_names : List (List ℕ) → Option Names
confirm_names rest =
    if is_taken confirm_app rest then names_of (matches_of confirm_app rest) else None

-- what words behind `demo` ask for
abbrev pub demo_asked : List (List ℕ) → Option Demo
demo_asked rest = if is_taken demo_app rest then demo_of (matches_of demo_app rest) else None

-- the command whose form the words are in, if there is one
abbrev pub command_of : List (List ℕ) → Option Command
command_of [] = None
command_of (first ∷ rest) = if bytes_eq first (codes "sign")
    then option_map ToSign (sign_order rest)
    else (if bytes_eq first (codes "confirm") then option_map ToConfirm (confirm_names rest)
    else (if bytes_eq first (codes "demo") then option_map ToDemo (demo_asked rest) else None))
