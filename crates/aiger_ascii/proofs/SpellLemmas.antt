-- What is spelled is read so.
use Rattle.std.proofs.Common.{◌≡◌, ℕ, ◌+◌, ◌≤◌, Bool, false, cond, eqb, List, ◌++◌, length, map, replicate, Ok, refl, sym, ap, subst, ◌∙◌, inl, inr, append_assoc, arith}
use Rattle.std.specs.Prelude.{slice_index}
use Rattle.std.specs.List.{AllByRecursion}
use Rattle.std.proofs.lemmas.Bool.{cases_lt}
use Rattle.std.proofs.lemmas.List.{get_or-replicate, get_or_past, length-replicate}
use Rattle.ja_base.specs.Literals.{bit, variable}
use Rattle.aig_model.specs.declared.netlist.Latch.{Latch}
use Rattle.aig_model.specs.declared.netlist.Parts.{Parts}
use Rattle.aig_model.specs.Netlist.{IsNew, gate_var, definitions}
use Rattle.aig_model.specs.Refusals.{netlist_of, AreOnce}
use Rattle.aiger_lines.specs.declared.form.Form.TheVariants.{Ascii}
use Rattle.aiger_lines.specs.declared.sizes.Header.{Header}
use Rattle.aiger_lines.specs.Lines.{IsLiteralLine, IsUsed}
use Rattle.aiger_lines.specs.Files.{Counts, File}
use Rattle.aiger_lines.proofs.HeaderLemmas.{header_again}
use Rattle.aiger_lines.proofs.SectionLemmas.{literals_again}
use Rattle.aiger_lines.proofs.PartsLemmas.{IsLatchInRange, IsGateInRange, AreListsInRange, lists_of_range, bads_used, same_lists}
use Rattle.aiger_ascii.specs.Grammar.{IsLatchLine, IsGateLine, Sections, text_of, AreSpelled, Spells}
use Rattle.aiger_ascii.specs.Reading.{input_from, input_at, latch_from, latch_at, gate_from, gate_at, sections_at, file_at}
use Rattle.aiger_ascii.proofs.DefineLemmas.{marked, AreFresh, fresh_front, fresh_back, marked-append, apart_fresh}
use Rattle.aiger_ascii.proofs.ItemLemmas.{section_again, input_form, latch_form, gate_form}

-- ---- variables that are defined once are fresh

clear_row : (n v : ℕ) → bit (replicate n false) v ≡ false
clear_row n v =
    elim (cases_lt v n) [
      | inl lt ↦ get_or-replicate n v false false lt
      | inr le ↦ get_or_past (replicate n false) v false (omega (arith, length-replicate n false))
    ]

once_fresh : (n : ℕ) (p : Parts) → AreOnce p → AreFresh (replicate n false) (definitions (netlist_of p))
once_fresh n p once =
    let vs = definitions (netlist_of p) in
    apart_fresh (replicate n false) vs (λ k lt. clear_row n (slice_index vs k))
    (λ i j lt le e. once (slice_index vs i)
    (record { one = i; other = j; apart = lt; within = le; one_is = refl; other_is = sym e }))

-- ---- the sections

-- the lists are read behind the header
sections_again : (size : ℕ) (h : Header) (p : Parts) (bads : List ℕ) (s : Sections) → AreSpelled h p bads s → Counts h p bads
    → p.bads ≡ cond (eqb h.bads 0) p.outputs bads
    → AreListsInRange h.vars p → AllByRecursion (IsUsed h.vars) bads
    → AreFresh (replicate (h.vars + 1) false) (definitions (netlist_of p))
    → sections_at size h (s.inputs ++ (s.latches ++ (s.outputs ++ (s.bads ++ (s.constraints ++ (s.gates ++ s.tail)))))) ≡ Ok
    (p, s.tail)
unfolding sections_at input_at latch_at gate_at
sections_again size h p bads s spelled counts properties range bads_range fresh =
    let v = h.vars in
    let seen = replicate (v + 1) false in
    let I = map variable p.inputs in
    let L = map (λ (k : Latch). variable k.lit) p.latches in
    let G = map gate_var p.gates in
    let front = fresh_front seen (I ++ L) G fresh in
    let fresh1 = fresh_front seen I L front in
    let fresh2 = fresh_back seen I L front in
    let fresh3 : AreFresh (marked (marked seen I) L) G = subst (λ (k : List Bool). AreFresh k G) (marked-append seen I L)
    (fresh_back seen (I ++ L) G fresh) in
    let after5 = s.gates ++ s.tail in
    let after4 = s.constraints ++ after5 in
    let after3 = s.bads ++ after4 in
    let after2 = s.outputs ++ after3 in
    let after1 = s.latches ++ after2 in
    let read1 = section_again (input_from v) IsLiteralLine (IsNew v) (λ l. l) size
    (input_form v) seen s.inputs p.inputs after1 spelled.inputs range.inputs fresh1 in
    let read2 = section_again (latch_from v) IsLatchLine (IsLatchInRange v) (λ k. k.lit) size (latch_form v)
    (marked seen I) s.latches p.latches after2 spelled.latches range.latches fresh2 in
    let read3 = literals_again v size s.outputs p.outputs after3 spelled.outputs range.outputs in
    let read4 = literals_again v size s.bads bads after4 spelled.bad_lines bads_range in
    let read5 = literals_again v size s.constraints p.constraints after5 spelled.constraints range.constraints in
    let read6 = section_again (gate_from v) IsGateLine (IsGateInRange v) (λ g. g.lhs) size (gate_form v)
    (marked (marked seen I) L) s.gates p.gates s.tail spelled.gates range.gates fresh3 in
    rw (
      ← counts.inputs,
      read1,
      ← counts.latches,
      read2,
      ← counts.outputs,
      read3,
      ← counts.bad_lines,
      read4,
      ← counts.constraints,
      read5,
      ← counts.gates,
      read6,
    )
    (ap (λ (q : Parts). Ok (q, s.tail))
    (same_lists p v (cond (eqb (length bads) 0) p.outputs bads) counts.vars
    (properties ∙ ap (λ (n : ℕ). cond (eqb n 0) p.outputs bads) (sym counts.bad_lines))))

-- ---- a whole file

-- the file up to its gates
abbrev pub file_of : {bytes : List ℕ} (p : Parts) → Spells bytes p → File
file_of p s = record { head = s.head; parts = p; tail = s.sections.tail }

abbrev behind_header : Sections → List ℕ
behind_header s = s.inputs ++ (s.latches ++ (s.outputs ++ (s.bads ++ (s.constraints ++ (s.gates ++ s.tail)))))

regrouped : (s : Sections) → text_of s ≡ s.header ++ behind_header s
regrouped s = simp append_assoc

pub file_again : (bytes : List ℕ) (p : Parts) (s : Spells bytes p) → file_at bytes ≡ Ok (file_of p s)
unfolding file_at
file_again bytes p s =
    let h = s.head in
    let rest = behind_header s.sections in
    let whole : bytes ≡ s.sections.header ++ rest = s.bytes_are ∙ regrouped s.sections in
    let small : length (s.sections.header ++ rest) ≤ 67108864 = subst (λ (k : List ℕ). length k ≤ 67108864) whole s.file in
    let ranges = lists_of_range h.vars p s.counts.vars s.range in
    let bads = bads_used h.vars h.bads p.bads p.outputs s.bads s.properties s.counts.bad_lines ranges.bads in
    let lists = sections_again
    (length (s.sections.header ++ rest)) h p s.bads s.sections s.spelled s.counts s.properties ranges bads
    (once_fresh (h.vars + 1) p s.design.once) in
    ap file_at whole ∙ rw (header_again Ascii s.sections.header rest h s.spelled.header s.limits small, lists) refl
