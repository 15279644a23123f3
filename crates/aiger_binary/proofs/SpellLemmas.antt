-- What is spelled is read so.
use Rattle.std.proofs.Common.{◌≡◌, ℕ, ◌+◌, ◌*◌, ◌≤◌, cond, eqb, List, ◌++◌, length, Result, Ok, refl, sym, ap, subst, ◌∙◌, arith}
use Rattle.std.specs.List.{AllByRecursion}
use Rattle.ja_text.specs.Repeated.{repeated}
use Rattle.aig_model.specs.declared.netlist.Latch.{Latch}
use Rattle.aig_model.specs.declared.netlist.AndGate.{AndGate}
use Rattle.aig_model.specs.declared.netlist.Parts.{Parts}
use Rattle.aiger_lines.specs.declared.form.Form.TheVariants.{Binary}
use Rattle.aiger_lines.specs.declared.sizes.Header.{Header}
use Rattle.aiger_lines.specs.Lines.{IsUsed}
use Rattle.aiger_lines.specs.Reading.{literal_at}
use Rattle.aiger_lines.specs.Files.{Counts, File}
use Rattle.aiger_lines.proofs.ListLemmas.{all_weaker}
use Rattle.aiger_lines.proofs.HeaderLemmas.{header_again}
use Rattle.aiger_lines.proofs.SectionLemmas.{literals_again}
use Rattle.aiger_lines.proofs.PartsLemmas.{IsLatchInRange, AreListsInRange, lists_of_range, bads_used}
use Rattle.aiger_binary.specs.Grammar.{IsLatchLine, Sections, AreInOrder, AreSpelled, Spells}
use Rattle.aiger_binary.specs.Reading.{input_literals, latch_at, gate_at, before_latches, before_gates, sections_at, file_at}
use Rattle.aiger_binary.proofs.OrderLemmas.{numbered_counted, counted_inputs}
use Rattle.aiger_binary.proofs.ItemLemmas.{section_again}
use Rattle.aiger_binary.proofs.LatchLemmas.{HasNextInRange, latch_step}
use Rattle.aiger_binary.proofs.GateLemmas.{gates_again}
use Rattle.aiger_binary.proofs.FileLemmas.{behind_header, regrouped}

-- the lists with other variables, inputs and bads, which are the same
same_parts : (p : Parts) (vars : ℕ) (inputs bads : List ℕ) → p.vars ≡ vars → p.inputs ≡ inputs → p.bads ≡ bads
    → record p { vars = vars; inputs = inputs; bads = bads } ≡ p
same_parts p vars inputs bads e f g = sym
    (ap (λ (k : ℕ). record p { vars = k }) e ∙ ap (λ (k : List ℕ). record p { vars = vars; inputs = k }) f
    ∙ ap (λ (k : List ℕ). record p { vars = vars; inputs = inputs; bads = k }) g)

inputs_are : (h : Header) (p : Parts) → AreInOrder h p → length p.inputs ≡ h.inputs → p.inputs ≡ input_literals h.inputs
inputs_are h p order len = counted_inputs 1 p.inputs (numbered_counted (λ l. l) 1 p.inputs order.inputs) ∙ ap input_literals len

-- as many items as were counted
as_many : {S X F : Type 0} (step : S → Result (X × S) F) (n : ℕ) (xs : List X) (s t : S) → length xs ≡ n
    → repeated step (length xs) s ≡ Ok (xs, t) → repeated step n s ≡ Ok (xs, t)
as_many step n xs s t e read = subst (λ (k : ℕ). repeated step k s ≡ Ok (xs, t)) e read

-- the lists are read behind the header
sections_again : (size : ℕ) (h : Header) (p : Parts) (bads : List ℕ) (s : Sections) → AreSpelled h p bads s → Counts h p bads
    → AreInOrder h p → p.bads ≡ cond (eqb h.bads 0) p.outputs bads
    → AreListsInRange h.vars p → AllByRecursion (IsUsed h.vars) bads → sections_at size h (behind_header s) ≡ Ok (p, s.tail)
unfolding sections_at
sections_again size h p bads s spelled counts order properties range bads_range =
    let v = h.vars in
    let after4 = s.gates ++ s.tail in
    let after3 = s.constraints ++ after4 in
    let after2 = s.bads ++ after3 in
    let after1 = s.outputs ++ after2 in
    let literal = literal_at v size in
    let latch = latch_at v size in
    let next = all_weaker (IsLatchInRange v) (HasNextInRange v) (λ k r. r.next) p.latches range.latches in
    let latch_order = numbered_counted (λ (k : Latch). k.lit) (h.inputs + 1) p.latches order.latches in
    let gate_order = numbered_counted (λ (g : AndGate). g.lhs) (h.inputs + h.latches + 1) p.gates order.gates in
    let some1 : 2 ≤ 2 * (h.inputs + 1) = omega arith in
    let some5 : 2 ≤ 2 * (h.inputs + h.latches + 1) = omega arith in
    let first = section_again latch IsLatchLine (HasNextInRange v) (λ k. k.lit) (latch_step v size)
    (2 * (h.inputs + 1)) s.latches p.latches after1 some1 spelled.latches next latch_order in
    let last = gates_again size (2 * (h.inputs + h.latches + 1)) s.gates p.gates s.tail some5 spelled.gates gate_order in
    let read1 = as_many latch h.latches p.latches (before_latches h (s.latches ++ after1))
    (record { lit = first.0; rest = after1 }) counts.latches first.1 in
    let read2 = as_many literal h.outputs p.outputs (s.outputs ++ after2) after2 counts.outputs
    (literals_again v size s.outputs p.outputs after2 spelled.outputs range.outputs) in
    let read3 = as_many literal h.bads bads (s.bads ++ after3) after3 counts.bad_lines
    (literals_again v size s.bads bads after3 spelled.bad_lines bads_range) in
    let read4 = as_many literal h.constraints p.constraints (s.constraints ++ after4) after4 counts.constraints
    (literals_again v size s.constraints p.constraints after4 spelled.constraints range.constraints) in
    let read5 = as_many (gate_at size) h.gates p.gates (before_gates h after4)
    (record { lit = last.0; rest = s.tail }) counts.gates last.1 in
    rw (read1, read2, read3, read4, read5)
    (ap (λ (q : Parts). Ok (q, s.tail))
    (same_parts p v (input_literals h.inputs) (cond (eqb h.bads 0) p.outputs bads) counts.vars
    (inputs_are h p order counts.inputs) properties))

-- ---- a whole file

-- the file up to its gates
abbrev pub file_of : {bytes : List ℕ} (p : Parts) → Spells bytes p → File
file_of p s = record { head = s.head; parts = p; tail = s.sections.tail }

pub file_again : (bytes : List ℕ) (p : Parts) (s : Spells bytes p) → file_at bytes ≡ Ok (file_of p s)
unfolding file_at
file_again bytes p s =
    let h = s.head in
    let rest = behind_header s.sections in
    let whole : bytes ≡ s.sections.header ++ rest = s.bytes_are ∙ regrouped s.sections in
    let small : length (s.sections.header ++ rest) ≤ 67108864 = subst (λ (k : List ℕ). length k ≤ 67108864) whole s.file in
    let ranges = lists_of_range h.vars p s.counts.vars s.range in
    let bads = bads_used h.vars h.bads p.bads p.outputs s.bads s.properties s.counts.bad_lines ranges.bads in
    let lists = sections_again
    (length (s.sections.header ++ rest)) h p s.bads s.sections s.spelled s.counts s.order s.properties ranges bads in
    ap file_at whole ∙ rw (header_again Binary s.sections.header rest h s.spelled.header s.limits small, lists) refl
