-- A single byte and a word are read as they are spelled, and what is spelled so is read so.
use Rattle.std.proofs.Common.{◌≡◌, ℕ, Bool, true, false, cond, eqb, List, [], ◌∷◌, ◌++◌, length, take, drop, Some, None, refl, sym, ap, ◌∙◌, eqb-true, eq-eqb}
use Rattle.std.specs.Str.{bytes_eq}
use Rattle.std.proofs.lemmas.Slice.Eq.{bytes_eq-Decides}
use Rattle.std.proofs.lemmas.List.{take_at, drop_at, take-append-drop}
use Rattle.std.proofs.lemmas.Option.{cond_some}
use Rattle.ja_text.specs.Lines.{byte_at, space_at, newline_at, word_at}

-- ---- a single byte

byte_is : (b c : ℕ) (cs rest : List ℕ) (t : Bool) → t ≡ eqb c b → cond t (Some cs) None ≡ Some rest → c ∷ cs ≡ b ∷ rest
byte_is b c cs rest true e h = let same : c ≡ b = eqb-true c b (sym e) in cc
byte_is b c cs rest false e h = absurd cc

pub byte_takes : (b : ℕ) (bytes rest : List ℕ) → byte_at b bytes ≡ Some rest → bytes ≡ b ∷ rest
byte_takes b [] rest h = absurd cc
byte_takes b (c ∷ cs) rest h = byte_is b c cs rest (eqb c b) refl h

pub byte_again : (b : ℕ) (rest : List ℕ) → byte_at b (b ∷ rest) ≡ Some rest
byte_again b rest = rw (eq-eqb b b refl) refl

pub space_takes : (bytes rest : List ℕ) → space_at bytes ≡ Some rest → bytes ≡ 32 ∷ rest
unfolding space_at
space_takes bytes rest h = byte_takes 32 bytes rest h

pub space_again : (rest : List ℕ) → space_at (32 ∷ rest) ≡ Some rest
unfolding space_at
space_again rest = byte_again 32 rest

pub newline_takes : (bytes rest : List ℕ) → newline_at bytes ≡ Some rest → bytes ≡ 10 ∷ rest
unfolding newline_at
newline_takes bytes rest h = byte_takes 10 bytes rest h

pub newline_again : (rest : List ℕ) → newline_at (10 ∷ rest) ≡ Some rest
unfolding newline_at
newline_again rest = byte_again 10 rest

-- ---- a word

pub word_takes : (word bytes rest : List ℕ) → word_at word bytes ≡ Some rest → bytes ≡ word ++ rest
unfolding word_at
word_takes word bytes rest h =
    let some = cond_some (bytes_eq word (take (length word) bytes)) (drop (length word) bytes) rest h in
    let front : word ≡ take (length word) bytes = (bytes_eq-Decides word (take (length word) bytes)).0 some.0 in
    sym (take-append-drop (length word) bytes) ∙ ap (λ (k : List ℕ). k ++ drop (length word) bytes) (sym front)
    ∙ ap (λ (k : List ℕ). word ++ k) some.1

pub word_again : (word rest : List ℕ) → word_at word (word ++ rest) ≡ Some rest
unfolding word_at
word_again word rest =
    let same : bytes_eq word word ≡ true = (bytes_eq-Decides word word).1 refl in
    rw (take_at word rest (length word) refl, drop_at word rest (length word) refl, same) refl
