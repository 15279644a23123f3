-- Refusals behind the gates, and that a file that is spelled has none.
use Rattle.std.proofs.Common.{◌≡◌, ℕ, List, length, Result, Ok, Err, refl, sym, ap, subst, ◌∙◌, ◌⊎◌, inl, inr}
use Rattle.std.specs.Prelude.{MatchResult, IfOk}
use Rattle.ja_base.specs.Circuit.{Circuit}
use Rattle.ja_base.specs.Answers.{IfRefused}
use Rattle.ja_base.specs.declared.memory.OrMemory.{OrMemory}
use Rattle.ja_base.specs.declared.memory.OrMemory.TheVariants.{Refused, Memory}
use Rattle.ja_text.proofs.ReadingLemmas.{ok_is}
use Rattle.aig_model.specs.declared.netlist.Parts.{Parts}
use Rattle.aig_model.specs.declared.build.BuildRefusal.{BuildRefusal}
use Rattle.aig_model.specs.declared.build.BuildRefusal.TheVariants.{Twice, Undefined, Cycle}
use Rattle.aig_model.specs.Netlist.{circuit}
use Rattle.aig_model.specs.Refusals.{netlist_of, IsRefusal, AreOnce, MakesDesign}
use Rattle.aig_model.proofs.RefusalLemmas.{refusals_agree_lem, designs_are_not_refused_lem}
use Rattle.aiger_lines.specs.declared.refusal.ReadRefusal.{ReadRefusal}
use Rattle.aiger_lines.specs.declared.refusal.ReadRefusal.TheVariants.{Symbol}
use Rattle.aiger_lines.specs.Tail.{HasBadLine}
use Rattle.aiger_lines.specs.Reading.{place}
use Rattle.aiger_lines.specs.Files.{File, IsTailRefusal}
use Rattle.aiger_lines.proofs.TailCases.{TailCases, tail_cases}
use Rattle.aiger_lines.proofs.TailLemmas.{tail_has_none, bad_line_one}
use Rattle.aiger_ascii.specs.Grammar.{Spells, IsAsciiDesign}
use Rattle.aiger_ascii.specs.Reading.{file_at}
use Rattle.aiger_ascii.specs.FirstRefusal.{IsLate, Becomes, IsBuildRefusal, IsFirstRefusal}
use Rattle.aiger_ascii.proofs.FileLemmas.{file_range, file_once, file_spells}
use Rattle.aiger_ascii.proofs.SpellLemmas.{file_of, file_again}
use Rattle.aiger_ascii.proofs.DesignLemmas.{MakesOrIsRefused, makes_or_is_refused}

-- where no variable is defined twice, that is not what lists are refused for
pub late_refusal : (p : Parts) (b : BuildRefusal) → AreOnce p → IsRefusal p b → IsLate b
late_refusal p (Twice v) once r = once v r.0
late_refusal p (Undefined v) once r = tt
late_refusal p (Cycle v) once r = tt

pub tail_refusal : (bytes : List ℕ) (f : File) (at : ℕ) (line : List ℕ) → file_at bytes ≡ Ok f → MakesDesign f.parts
    → HasBadLine f.head f.tail line → at ≡ place (length bytes) line → IsFirstRefusal bytes (Symbol at)
tail_refusal bytes f at line e design bad at-is = rw e (inr (design, (line, bad, ap (λ (k : ℕ). Symbol k) at-is)))

-- ---- a file that is spelled

pub no_refusal : (bytes : List ℕ) (p : Parts) (r : ReadRefusal) → Spells bytes p → IsFirstRefusal bytes r → ⊥
no_refusal bytes p r s first =
    let late = rw (file_again bytes p s) at first in
    elim late [
      | inl b ↦ designs_are_not_refused_lem p b.0 s.design b.1
      | inr t ↦ tail_has_none s.head s.sections.tail t.1.0 s.spelled.tail t.1.1
    ]

-- the bytes spell one circuit
pub one_circuit : (bytes : List ℕ) (c d : Circuit) → IsAsciiDesign bytes c → IsAsciiDesign bytes d → c ≡ d
one_circuit bytes c d g h =
    let same = ok_is (file_of g.0 g.1) (file_of h.0 h.1) (sym (file_again bytes g.0 g.1) ∙ file_again bytes h.0 h.1) in
    g.2 ∙ ap (λ (f : File). circuit (netlist_of f.parts)) same ∙ sym h.2

-- ---- there is one first refusal

becomes_one : (b : BuildRefusal) (x y : ReadRefusal) → Becomes b x → Becomes b y → x ≡ y
becomes_one (Twice v) x y g h = absurd g
becomes_one (Undefined v) x y g h = g ∙ sym h
becomes_one (Cycle v) x y g h = g ∙ sym h

abbrev IsRefusalOf : ℕ → Result File ReadRefusal → ReadRefusal → Type 0
IsRefusalOf size read r = MatchResult read (λ f. IsBuildRefusal f.parts r ⊎ (MakesDesign f.parts × IsTailRefusal size f r))
    (λ e. r ≡ e)

same_refusal : (size : ℕ) (read : Result File ReadRefusal) (x y : ReadRefusal) → IsRefusalOf size read x → IsRefusalOf size read y
    → x ≡ y
same_refusal size (Err e) x y g h = g ∙ sym h
same_refusal size (Ok f) x y (inl g) (inl h) =
    becomes_one h.0 x y (subst (λ (k : BuildRefusal). Becomes k x) (refusals_agree_lem f.parts g.0 h.0 g.1 h.1) g.2) h.2
same_refusal size (Ok f) x y (inl g) (inr h) = absurd (designs_are_not_refused_lem f.parts g.0 h.0 g.1)
same_refusal size (Ok f) x y (inr g) (inl h) = absurd (designs_are_not_refused_lem f.parts h.0 g.0 h.1)
same_refusal size (Ok f) x y (inr g) (inr h) =
    g.1.2 ∙ ap (λ (k : List ℕ). Symbol (place size k)) (bad_line_one f.head f.tail g.1.0 h.1.0 g.1.1 h.1.1) ∙ sym h.1.2

pub one_refusal : (bytes : List ℕ) (x y : ReadRefusal) → IsFirstRefusal bytes x → IsFirstRefusal bytes y → x ≡ y
one_refusal bytes x y g h = same_refusal (length bytes) (file_at bytes) x y g h

-- ---- what a reader answers

pub only_it : {T : Type 0} (circuit_of : T → Circuit) (bytes : List ℕ) (r : Result T (OrMemory ReadRefusal)) (c : Circuit)
    → IfOk r (λ d. IsAsciiDesign bytes (circuit_of d)) → IsAsciiDesign bytes c → IfOk r (λ d. circuit_of d ≡ c)
only_it circuit_of bytes (Ok d) c found spelled = one_circuit bytes (circuit_of d) c found spelled
only_it circuit_of bytes (Err e) c found spelled = tt

pub not_refused : {T : Type 0} (bytes : List ℕ) (r : Result T (OrMemory ReadRefusal)) (c : Circuit)
    → IfRefused r (IsFirstRefusal bytes) → IsAsciiDesign bytes c → IfRefused r (λ _. ⊥)
not_refused bytes (Ok d) c refused spelled = tt
not_refused bytes (Err (Refused f)) c refused spelled = no_refusal bytes spelled.0 f spelled.1 refused
not_refused bytes (Err Memory) c refused spelled = tt

-- ---- a design or a refusal

abbrev Answered : List ℕ → Type 0
Answered bytes = ((c : Circuit) × IsAsciiDesign bytes c) ⊎ ((r : ReadRefusal) × IsFirstRefusal bytes r)

by_tail : (bytes : List ℕ) (f : File) → file_at bytes ≡ Ok f → MakesDesign f.parts → TailCases f.head f.tail → Answered bytes
by_tail bytes f e design (inl tail) = inl (circuit (netlist_of f.parts), (f.parts, file_spells bytes f e design tail, refl))
by_tail bytes f e design (inr bad) =
    let at = place (length bytes) bad.0 in
    inr (Symbol at, tail_refusal bytes f at bad.0 e design bad.1 refl)

by_parts : (bytes : List ℕ) (f : File) → file_at bytes ≡ Ok f → MakesOrIsRefused f.parts → Answered bytes
by_parts bytes f e (inl design) = by_tail bytes f e design (tail_cases f.head f.tail)
by_parts bytes f e (inr late) = inr (late.0, rw e (inl late.1))

pub spells_or_is_refused : (bytes : List ℕ) → ((c : Circuit) × IsAsciiDesign bytes c)
    ⊎ ((r : ReadRefusal) × IsFirstRefusal bytes r)
spells_or_is_refused bytes = by_reading (file_at bytes) refl
  where
    by_reading : (read : Result File ReadRefusal) → file_at bytes ≡ read → Answered bytes
    by_reading (Ok f) e = by_parts bytes f e (makes_or_is_refused f.parts (file_range bytes f e) (file_once bytes f e))
    by_reading (Err r) e = inr (r, rw e refl)
