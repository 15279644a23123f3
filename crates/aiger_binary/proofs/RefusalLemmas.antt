-- Refusals behind the gates, and that a file that is spelled has none.
use Rattle.std.proofs.Common.{◌≡◌, ℕ, List, length, Result, Ok, Err, refl, sym, ap, ◌∙◌, ◌⊎◌, inl, inr}
use Rattle.std.specs.Prelude.{MatchResult, IfOk}
use Rattle.ja_base.specs.Circuit.{Circuit}
use Rattle.ja_base.specs.Answers.{IfRefused}
use Rattle.ja_base.specs.declared.memory.OrMemory.{OrMemory}
use Rattle.ja_base.specs.declared.memory.OrMemory.TheVariants.{Refused, Memory}
use Rattle.ja_text.proofs.ReadingLemmas.{ok_is}
use Rattle.aig_model.specs.declared.netlist.Parts.{Parts}
use Rattle.aig_model.specs.Netlist.{circuit}
use Rattle.aig_model.specs.Refusals.{netlist_of}
use Rattle.aiger_lines.specs.declared.refusal.ReadRefusal.{ReadRefusal}
use Rattle.aiger_lines.specs.declared.refusal.ReadRefusal.TheVariants.{Symbol}
use Rattle.aiger_lines.specs.Tail.{HasBadLine}
use Rattle.aiger_lines.specs.Reading.{place}
use Rattle.aiger_lines.specs.Files.{File, IsTailRefusal}
use Rattle.aiger_lines.proofs.TailCases.{TailCases, tail_cases}
use Rattle.aiger_lines.proofs.TailLemmas.{tail_has_none, bad_line_one}
use Rattle.aiger_binary.specs.Grammar.{Spells, IsBinaryDesign}
use Rattle.aiger_binary.specs.Reading.{file_at}
use Rattle.aiger_binary.specs.FirstRefusal.{IsFirstRefusal}
use Rattle.aiger_binary.proofs.FileLemmas.{file_spells}
use Rattle.aiger_binary.proofs.SpellLemmas.{file_of, file_again}

pub tail_refusal : (bytes : List ℕ) (f : File) (at : ℕ) (line : List ℕ) → file_at bytes ≡ Ok f → HasBadLine f.head f.tail line
    → at ≡ place (length bytes) line → IsFirstRefusal bytes (Symbol at)
tail_refusal bytes f at line e bad at-is = rw e (line, bad, ap (λ (k : ℕ). Symbol k) at-is)

-- ---- a file that is spelled

pub no_refusal : (bytes : List ℕ) (p : Parts) (r : ReadRefusal) → Spells bytes p → IsFirstRefusal bytes r → ⊥
no_refusal bytes p r s refusal =
    let late = rw (file_again bytes p s) at refusal in
    tail_has_none s.head s.sections.tail late.0 s.spelled.tail late.1

-- the bytes spell one circuit
pub one_circuit : (bytes : List ℕ) (c d : Circuit) → IsBinaryDesign bytes c → IsBinaryDesign bytes d → c ≡ d
one_circuit bytes c d g h =
    let same = ok_is (file_of g.0 g.1) (file_of h.0 h.1) (sym (file_again bytes g.0 g.1) ∙ file_again bytes h.0 h.1) in
    g.2 ∙ ap (λ (f : File). circuit (netlist_of f.parts)) same ∙ sym h.2

-- ---- there is one first refusal

abbrev IsRefusalOf : ℕ → Result File ReadRefusal → ReadRefusal → Type 0
IsRefusalOf size read r = MatchResult read (λ f. IsTailRefusal size f r) (λ e. r ≡ e)

same_refusal : (size : ℕ) (read : Result File ReadRefusal) (x y : ReadRefusal) → IsRefusalOf size read x → IsRefusalOf size read y
    → x ≡ y
same_refusal size (Err e) x y g h = g ∙ sym h
same_refusal size (Ok f) x y g h = g.2 ∙ ap (λ (k : List ℕ). Symbol (place size k)) (bad_line_one f.head f.tail g.0 h.0 g.1 h.1)
    ∙ sym h.2

pub one_refusal : (bytes : List ℕ) (x y : ReadRefusal) → IsFirstRefusal bytes x → IsFirstRefusal bytes y → x ≡ y
one_refusal bytes x y g h = same_refusal (length bytes) (file_at bytes) x y g h

-- ---- what a reader answers

pub only_it : {T : Type 0} (circuit_of : T → Circuit) (bytes : List ℕ) (r : Result T (OrMemory ReadRefusal)) (c : Circuit)
    → IfOk r (λ d. IsBinaryDesign bytes (circuit_of d)) → IsBinaryDesign bytes c → IfOk r (λ d. circuit_of d ≡ c)
only_it circuit_of bytes (Ok d) c found spelled = one_circuit bytes (circuit_of d) c found spelled
only_it circuit_of bytes (Err e) c found spelled = tt

pub not_refused : {T : Type 0} (bytes : List ℕ) (r : Result T (OrMemory ReadRefusal)) (c : Circuit)
    → IfRefused r (IsFirstRefusal bytes) → IsBinaryDesign bytes c → IfRefused r (λ _. ⊥)
not_refused bytes (Ok d) c refused spelled = tt
not_refused bytes (Err (Refused f)) c refused spelled = no_refusal bytes spelled.0 f spelled.1 refused
not_refused bytes (Err Memory) c refused spelled = tt

-- ---- a design or a refusal

abbrev Answered : List ℕ → Type 0
Answered bytes = ((c : Circuit) × IsBinaryDesign bytes c) ⊎ ((r : ReadRefusal) × IsFirstRefusal bytes r)

file_answered : (bytes : List ℕ) (f : File) → file_at bytes ≡ Ok f → TailCases f.head f.tail → Answered bytes
file_answered bytes f e (inl tail) = inl (circuit (netlist_of f.parts), (f.parts, file_spells bytes f e tail, refl))
file_answered bytes f e (inr bad) = inr
    (Symbol (place (length bytes) bad.0), tail_refusal bytes f (place (length bytes) bad.0) bad.0 e bad.1 refl)

pub spells_or_is_refused : (bytes : List ℕ) → ((c : Circuit) × IsBinaryDesign bytes c)
    ⊎ ((r : ReadRefusal) × IsFirstRefusal bytes r)
spells_or_is_refused bytes = by_reading (file_at bytes) refl
  where
    by_reading : (read : Result File ReadRefusal) → file_at bytes ≡ read → Answered bytes
    by_reading (Ok f) e = file_answered bytes f e (tail_cases f.head f.tail)
    by_reading (Err r) e = inr (r, rw e refl)
