-- What was expected, as the lines up to a place say it.
use Rattle.std.proofs.Common.{◌≡◌, ℕ, zero, suc, ◌+◌, Bool, true, false, List, [], ◌∷◌, length, replicate, refl, sym, ap, subst, ◌∙◌, add-one, if◌then◌else◌, Option, Some, arith}
use Rattle.std.proofs.lemmas.Option.{slice_get_within}
use Rattle.std.specs.Prelude.{slice_get, slice_set}
use Rattle.std.specs.Option.{unwrap_or}
use Rattle.report.specs.declared.parts.PropLine.{PropLine}
use Rattle.sign_task.specs.Sections.{assumed_of}

-- before the place, what each line expected; behind it, that each property holds
abbrev pub assumed_before : List PropLine → ℕ → List Bool
assumed_before [] i = []
assumed_before (l ∷ ls) zero = true ∷ assumed_before ls zero
assumed_before (l ∷ ls) (suc i) = l.assumed ∷ assumed_before ls i

-- where a property is not expected to hold, its place is set to false
abbrev pub step_of : Bool → List Bool → ℕ → List Bool
step_of assumed old i = if assumed then old else slice_set old i false

at_front : (assumed : Bool) (rest : List Bool) → step_of assumed (true ∷ rest) zero ≡ assumed ∷ rest
at_front true rest = refl
at_front false rest = refl

behind : (assumed first : Bool) (old new : List Bool) (i : ℕ) → step_of assumed old i ≡ new
    → step_of assumed (first ∷ old) (suc i) ≡ first ∷ new
behind true first old new i e = ap (λ (t : List Bool). first ∷ t) e
behind false first old new i e = ap (λ (t : List Bool). first ∷ t) e

one_more : (lines : List PropLine) (i : ℕ) (line : PropLine) → slice_get lines i ≡ Some line
    → step_of line.assumed (assumed_before lines i) i ≡ assumed_before lines (suc i)
one_more (l ∷ ls) zero line get =
    subst (λ (x : PropLine). step_of x.assumed (true ∷ assumed_before ls zero) zero ≡ l.assumed ∷ assumed_before ls zero)
    (ap (λ (o : Option PropLine). unwrap_or o l) get) (at_front l.assumed (assumed_before ls zero))
one_more (l ∷ ls) (suc i) line get =
    behind line.assumed l.assumed (assumed_before ls i) (assumed_before ls (suc i)) i (one_more ls i line get)
one_more [] i line get = absurd (omega (arith, slice_get_within [] i line get))

pub assumed_goes_on : (lines : List PropLine) (i : ℕ) (line : PropLine) (old new : List Bool) → slice_get lines i ≡ Some line
    → old ≡ assumed_before lines i → new ≡ step_of line.assumed old i → new ≡ assumed_before lines (i + 1)
assumed_goes_on lines i line old new get is step =
    step ∙ ap (λ (t : List Bool). step_of line.assumed t i) is ∙ one_more lines i line get
    ∙ ap (assumed_before lines) (sym (add-one i))

pub assumed_begins : (lines : List PropLine) → replicate (length lines) true ≡ assumed_before lines 0
assumed_begins [] = refl
assumed_begins (l ∷ ls) = ap (λ (t : List Bool). true ∷ t) (assumed_begins ls)

pub assumed_ends : (lines : List PropLine) → assumed_before lines (length lines) ≡ assumed_of lines
assumed_ends [] = refl
assumed_ends (l ∷ ls) = ap (λ (t : List Bool). l.assumed ∷ t) (assumed_ends ls)

pub assumed_is_long : (lines : List PropLine) (i : ℕ) → length (assumed_before lines i) ≡ length lines
assumed_is_long [] i = refl
assumed_is_long (l ∷ ls) zero = ap suc (assumed_is_long ls zero)
assumed_is_long (l ∷ ls) (suc i) = ap suc (assumed_is_long ls i)
