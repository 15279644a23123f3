-- Reading line after line, as the loop does.
use Rattle.std.proofs.Common.{◌≡◌, ℕ, ◌+◌, ◌<◌, ◌≤◌, List, [], ◌∷◌, length, Option, Some, None, Result, Ok, Err, Bor, refl, sym, ◌∙◌, arith}
use Rattle.std.specs.Prelude.{IfSome}
use Rattle.ja_base.specs.declared.memory.OrMemory.{OrMemory}
use Rattle.ja_base.specs.declared.memory.OrMemory.TheVariants as or_memory
use Rattle.ja_text.specs.Reading.{Fails}
use Rattle.expect_file.specs.declared.found.Found.{Found}
use Rattle.expect_file.specs.declared.refusal.ExpectRefusal.{ExpectRefusal}
use Rattle.expect_file.specs.ExpectationsReading.{line_read, lines_read}

-- the next line is taken
pub lines_more : (number : ℕ) (found next : Found) (line : List ℕ) (lines rest : List (List ℕ))
    (total : Result Found ExpectRefusal)
    → lines ≡ line ∷ rest → line_read number found line ≡ Ok next → lines_read number found lines ≡ total
    → lines_read (number + 1) next rest ≡ total
unfolding lines_read
lines_more number found next line lines rest total cut h so_far =
    let one : lines_read number found lines ≡ lines_read (number + 1) next rest = rw (cut, h) refl in
    sym one ∙ so_far

-- the next line fails
pub lines_fail : (e : OrMemory ExpectRefusal) (number : ℕ) (found : Found) (line : List ℕ) (lines rest : List (List ℕ))
    (total : Result Found ExpectRefusal)
    → lines ≡ line ∷ rest → Fails e (line_read number found line) → lines_read number found lines ≡ total → Fails e total
unfolding lines_read
lines_fail or_memory.Memory number found line lines rest total cut h so_far = tt
lines_fail (or_memory.Refused refusal) number found line lines rest total cut h so_far =
    let one : lines_read number found lines ≡ Err refusal = rw (cut, h) refl in
    sym so_far ∙ one

-- no line is left
pub lines_end : (number : ℕ) (found : Found) (total : Result Found ExpectRefusal) → lines_read number found [] ≡ total
    → total ≡ Ok found
unfolding lines_read
lines_end number found total so_far = sym so_far

-- what follows a line is shorter, so there is room for one number more
pub room : (behind : Option (Bor (List ℕ))) (number size : ℕ) → IfSome behind (λ rest. length rest.now < size)
    → number + size ≤ 4194306 → IfSome behind (λ rest. number + 1 + length rest.now ≤ 4194306)
room None number size shorter fits = tt
room (Some rest) number size shorter fits = omega (arith, shorter)
