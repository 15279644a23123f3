-- A file is read as it is spelled, and what is spelled so is read so.
use Rattle.std.proofs.Common.{◌≡◌, ℕ, ◌+◌, ◌<◌, ◌≤◌, Bool, false, cond, eqb, List, ◌++◌, length, map, replicate, Result, Ok, refl, sym, ap, subst, ◌∙◌, append_assoc, arith}
use Rattle.std.specs.List.{AllByRecursion}
use Rattle.std.proofs.lemmas.List.{length-replicate}
use Rattle.ja_base.specs.Literals.{variable}
use Rattle.ja_text.specs.Reading.{◌>>=◌}
use Rattle.ja_text.specs.Repeated.{repeated}
use Rattle.ja_text.proofs.ReadingLemmas.{ok_is}
use Rattle.aig_model.specs.declared.netlist.Latch.{Latch}
use Rattle.aig_model.specs.declared.netlist.AndGate.{AndGate}
use Rattle.aig_model.specs.declared.netlist.Parts.{Parts}
use Rattle.aig_model.specs.Netlist.{IsNew, gate_var, definitions}
use Rattle.aig_model.specs.Refusals.{netlist_of, AreInRange, AreOnce, MakesDesign}
use Rattle.aiger_lines.specs.declared.form.Form.TheVariants.{Ascii}
use Rattle.aiger_lines.specs.declared.sizes.Header.{Header}
use Rattle.aiger_lines.specs.declared.refusal.ReadRefusal.{ReadRefusal}
use Rattle.aiger_lines.specs.Header.{IsWithinLimits}
use Rattle.aiger_lines.specs.Lines.{IsLiteralLine, IsUsed, TakesItems}
use Rattle.aiger_lines.specs.Tail.{IsTail}
use Rattle.aiger_lines.specs.Reading.{literal_at, header_at}
use Rattle.aiger_lines.specs.Files.{Counts, File}
use Rattle.aiger_lines.proofs.ListLemmas.{all_join, all_mapped}
use Rattle.aiger_lines.proofs.HeaderLemmas.{TakesHeader, header_takes}
use Rattle.aiger_lines.proofs.SectionLemmas.{literals_take}
use Rattle.aiger_lines.proofs.PartsLemmas.{bind_then, IsLatchInRange, IsGateInRange, range_of_lists, properties_used}
use Rattle.aiger_ascii.specs.Grammar.{IsLatchLine, IsGateLine, Spells}
use Rattle.aiger_ascii.specs.Reading.{State, input_from, input_at, latch_from, latch_at, gate_from, gate_at, state_before, sections_at, file_at}
use Rattle.aiger_ascii.proofs.DefineLemmas.{marked, AreFresh, fresh_join, marked-append, fresh_apart}
use Rattle.aiger_ascii.proofs.ItemLemmas.{section_takes, input_form, latch_form, gate_form}

-- ---- what is read is spelled so

-- the lists of a file were read: their lines stand there in order, and no variable is defined twice
pub record TakesSections (h : Header) (bytes : List ℕ) (p : Parts) (tail : List ℕ) : Type 0 where
  pub rest1 : List ℕ
  pub rest2 : List ℕ
  pub rest3 : List ℕ
  pub rest4 : List ℕ
  pub rest5 : List ℕ
  pub bad_lits : List ℕ
  pub inputs : TakesItems IsLiteralLine (IsNew h.vars) bytes p.inputs rest1
  pub latches : TakesItems IsLatchLine (IsLatchInRange h.vars) rest1 p.latches rest2
  pub outputs : TakesItems IsLiteralLine (IsUsed h.vars) rest2 p.outputs rest3
  pub bads : TakesItems IsLiteralLine (IsUsed h.vars) rest3 bad_lits rest4
  pub constraints : TakesItems IsLiteralLine (IsUsed h.vars) rest4 p.constraints rest5
  pub gates : TakesItems IsGateLine (IsGateInRange h.vars) rest5 p.gates tail
  pub counts : Counts h p bad_lits
  pub properties : p.bads ≡ cond (eqb h.bads 0) p.outputs bad_lits
  pub fresh : AreFresh (replicate (h.vars + 1) false) (definitions (netlist_of p))

-- what follows the gates, and the lists
abbrev lists_of : Header → List ℕ → List Latch → List ℕ → List ℕ → List ℕ → List AndGate → Parts
lists_of h inputs latches outputs bads constraints gates = record {
  vars = h.vars;
  inputs = inputs;
  latches = latches;
  bads = cond (eqb h.bads 0) outputs bads;
  constraints = constraints;
  outputs = outputs;
  gates = gates;
}

-- the lists and states of the sections, one read behind the other
record ReadsSections (size : ℕ) (h : Header) (bytes : List ℕ) (p : Parts) (tail : List ℕ) : Type 0 where
  i : List ℕ × State
  l : List Latch × State
  o : List ℕ × List ℕ
  b : List ℕ × List ℕ
  c : List ℕ × List ℕ
  g : List AndGate × State
  inputs : repeated (input_at h.vars size) h.inputs (state_before h.vars bytes) ≡ Ok i
  latches : repeated (latch_at h.vars size) h.latches i.1 ≡ Ok l
  outputs : repeated (literal_at h.vars size) h.outputs l.1.rest ≡ Ok o
  bads : repeated (literal_at h.vars size) h.bads o.1 ≡ Ok b
  constraints : repeated (literal_at h.vars size) h.constraints b.1 ≡ Ok c
  gates : repeated (gate_at h.vars size) h.gates (record { seen = l.1.seen; rest = c.1 }) ≡ Ok g
  whole : ◌≡◌ {A = Result (Parts × List ℕ) ReadRefusal} (Ok (lists_of h i.0 l.0 o.0 b.0 c.0 g.0, g.1.rest)) (Ok (p, tail))

sections_read : (size : ℕ) (h : Header) (bytes : List ℕ) (p : Parts) (tail : List ℕ) → sections_at size h bytes ≡ Ok (p, tail)
    → ReadsSections size h bytes p tail
unfolding sections_at
sections_read size h bytes p tail e =
    let v = h.vars in
    let y : Parts × List ℕ = (p, tail) in
    let Six = λ (i : List ℕ × State) (l : List Latch × State) (o b c : List ℕ × List ℕ). λ (g : List AndGate × State). Ok
    (lists_of h i.0 l.0 o.0 b.0 c.0 g.0, g.1.rest) in
    let Five = λ (i : List ℕ × State) (l : List Latch × State) (o b : List ℕ × List ℕ). λ (c : List ℕ × List ℕ). repeated
    (gate_at v size) h.gates (record { seen = l.1.seen; rest = c.1 }) >>= Six i l o b c in
    let Four = λ (i : List ℕ × State) (l : List Latch × State) (o : List ℕ × List ℕ). λ (b : List ℕ × List ℕ). repeated
    (literal_at v size) h.constraints b.1 >>= Five i l o b in
    let Three = λ (i : List ℕ × State) (l : List Latch × State). λ (o : List ℕ × List ℕ). repeated
    (literal_at v size) h.bads o.1 >>= Four i l o in
    let Two = λ (i : List ℕ × State). λ (l : List Latch × State). repeated (literal_at v size) h.outputs l.1.rest >>= Three i l in
    let One = λ (i : List ℕ × State). repeated (latch_at v size) h.latches i.1 >>= Two i in
    bind_then (repeated (input_at v size) h.inputs (state_before v bytes)) One y e (λ i inputs e1.
    bind_then (repeated (latch_at v size) h.latches i.1) (Two i) y e1 (λ l latches e2.
    bind_then (repeated (literal_at v size) h.outputs l.1.rest) (Three i l) y e2 (λ o outputs e3.
    bind_then (repeated (literal_at v size) h.bads o.1) (Four i l o) y e3 (λ b bads e4.
    bind_then (repeated (literal_at v size) h.constraints b.1) (Five i l o b) y e4 (λ c constraints e5.
    bind_then (repeated (gate_at v size) h.gates (record { seen = l.1.seen; rest = c.1 })) (Six i l o b c) y e5 (λ g gates e6.
    record {
      i = i;
      l = l;
      o = o;
      b = b;
      c = c;
      g = g;
      inputs = inputs;
      latches = latches;
      outputs = outputs;
      bads = bads;
      constraints = constraints;
      gates = gates;
      whole = e6;
    }))))))

-- variables of inputs, latches and gates that are fresh one after the other are fresh together
fresh_together : (seen seen1 seen2 : List Bool) (us vs ws : List ℕ) → AreFresh seen us → seen1 ≡ marked seen us
    → AreFresh seen1 vs → seen2 ≡ marked seen1 vs → AreFresh seen2 ws → AreFresh seen (us ++ vs ++ ws)
fresh_together seen seen1 seen2 us vs ws fresh1 e1 fresh2 e2 fresh3 =
    let two : AreFresh (marked seen us) vs = subst (λ (k : List Bool). AreFresh k vs) e1 fresh2 in
    let both : seen2 ≡ marked seen (us ++ vs) = e2 ∙ ap (λ (k : List Bool). marked k vs) e1 ∙ sym (marked-append seen us vs) in
    fresh_join seen (us ++ vs) ws (fresh_join seen us vs fresh1 two) (subst (λ (k : List Bool). AreFresh k ws) both fresh3)

sections_spelled : (size : ℕ) (h : Header) (bytes : List ℕ) (p : Parts) (tail : List ℕ) (r : ReadsSections size h bytes p tail)
    → TakesSections h bytes (lists_of h r.i.0 r.l.0 r.o.0 r.b.0 r.c.0 r.g.0) r.g.1.rest
unfolding input_at latch_at gate_at
sections_spelled size h bytes p tail r =
    let v = h.vars in
    let inputs = section_takes (input_from v) IsLiteralLine (IsNew v) (λ l. l) size (input_form v) h.inputs
    (state_before v bytes) r.i.0 r.i.1 r.inputs in
    let latches = section_takes (latch_from v) IsLatchLine (IsLatchInRange v) (λ k. k.lit) size
    (latch_form v) h.latches r.i.1 r.l.0 r.l.1 r.latches in
    let outputs = literals_take v size h.outputs r.l.1.rest r.o.0 r.o.1 r.outputs in
    let bads = literals_take v size h.bads r.o.1 r.b.0 r.b.1 r.bads in
    let constraints = literals_take v size h.constraints r.b.1 r.c.0 r.c.1 r.constraints in
    let gates = section_takes (gate_from v) IsGateLine (IsGateInRange v) (λ g. g.lhs) size (gate_form v) h.gates
    (record { seen = r.l.1.seen; rest = r.c.1 }) r.g.0 r.g.1 r.gates in
    record {
      rest1 = r.i.1.rest;
      rest2 = r.l.1.rest;
      rest3 = r.o.1;
      rest4 = r.b.1;
      rest5 = r.c.1;
      bad_lits = r.b.0;
      inputs = inputs.0;
      latches = latches.0;
      outputs = outputs.0;
      bads = bads.0;
      constraints = constraints.0;
      gates = gates.0;
      counts = record {
        vars = refl;
        inputs = inputs.3;
        latches = latches.3;
        outputs = outputs.1;
        bad_lines = bads.1;
        constraints = constraints.1;
        gates = gates.3;
      };
      properties = refl;
      fresh = fresh_together (replicate (v + 1) false) r.i.1.seen r.l.1.seen (map variable r.i.0)
          (map (λ (k : Latch). variable k.lit) r.l.0) (map gate_var r.g.0) inputs.1 inputs.2 latches.1 latches.2 gates.1;
    }

pub sections_take : (size : ℕ) (h : Header) (bytes : List ℕ) (p : Parts) (tail : List ℕ) → sections_at size h bytes ≡ Ok (p, tail)
    → TakesSections h bytes p tail
sections_take size h bytes p tail e =
    let r = sections_read size h bytes p tail e in
    subst (λ (q : Parts × List ℕ). TakesSections h bytes q.0 q.1)
    (ok_is (lists_of h r.i.0 r.l.0 r.o.0 r.b.0 r.c.0 r.g.0, r.g.1.rest) (p, tail) r.whole)
    (sections_spelled size h bytes p tail r)

-- ---- literals are in range, and no variable is defined twice

new_variable : (vars l : ℕ) → IsNew vars l → variable l < vars + 1
new_variable vars l h = omega (arith, h.within)

within_row : (h : Header) (bytes : List ℕ) (p : Parts) (tail : List ℕ) → TakesSections h bytes p tail
    → AllByRecursion (λ v. v < h.vars + 1) (definitions (netlist_of p))
within_row h bytes p tail t =
    let W = λ (v : ℕ). v < h.vars + 1 in
    let I = map variable p.inputs in
    let L = map (λ (k : Latch). variable k.lit) p.latches in
    all_join W (I ++ L) (map gate_var p.gates)
    (all_join W I L (all_mapped variable (IsNew h.vars) W (λ l new. new_variable h.vars l new) p.inputs t.inputs.range)
    (all_mapped (λ (k : Latch). variable k.lit) (IsLatchInRange h.vars) W
    (λ k range. new_variable h.vars k.lit range.lit) p.latches t.latches.range))
    (all_mapped gate_var (IsGateInRange h.vars) W (λ g range. new_variable h.vars g.lhs range.lhs) p.gates t.gates.range)

pub sections_once : (h : Header) (bytes : List ℕ) (p : Parts) (tail : List ℕ) → TakesSections h bytes p tail → AreOnce p
sections_once h bytes p tail t v twice =
    fresh_apart (h.vars + 1) (replicate (h.vars + 1) false) (definitions (netlist_of p))
    (length-replicate (h.vars + 1) false) t.fresh (within_row h bytes p tail t)
    twice.one twice.other twice.apart twice.within (twice.one_is ∙ sym twice.other_is)

pub sections_range : (h : Header) (bytes : List ℕ) (p : Parts) (tail : List ℕ) → TakesSections h bytes p tail → h.vars ≤ 500000
    → AreInRange p
sections_range h bytes p tail t few =
    range_of_lists h.vars p t.counts.vars (omega arith) (record {
      inputs = t.inputs.range;
      latches = t.latches.range;
      outputs = t.outputs.range;
      bads = properties_used h.vars h.bads p.bads p.outputs t.bad_lits t.properties t.outputs.range t.bads.range;
      constraints = t.constraints.range;
      gates = t.gates.range;
    })

-- ---- a whole file

-- a file up to its gates was read
pub record TakesFile (bytes : List ℕ) (f : File) : Type 0 where
  pub rest : List ℕ
  pub header : TakesHeader Ascii bytes f.head rest
  pub limits : IsWithinLimits Ascii f.head
  pub small : length bytes ≤ 67108864
  pub sections : TakesSections f.head rest f.parts f.tail

pub file_takes : (bytes : List ℕ) (f : File) → file_at bytes ≡ Ok f → TakesFile bytes f
unfolding file_at
file_takes bytes f e =
    let Second = λ (head : Header × List ℕ). λ (lists : Parts × List ℕ). Ok
    (record { head = head.0; parts = lists.0; tail = lists.1 }) in
    let First = λ (head : Header × List ℕ). sections_at (length bytes) head.0 head.1 >>= Second head in
    bind_then (header_at Ascii bytes) First f e (λ head header e1.
    bind_then (sections_at (length bytes) head.0 head.1) (Second head) f e1 (λ lists sections e2.
    let file : File = record { head = head.0; parts = lists.0; tail = lists.1 } in
    let h = header_takes Ascii bytes head.0 head.1 header in
    let taken : TakesFile bytes file = record {
      rest = head.1;
      header = h.0;
      limits = h.1;
      small = h.2;
      sections = sections_take
          (length bytes) head.0 head.1 lists.0 lists.1 sections;
    } in
    subst (λ (k : File). TakesFile bytes k) (ok_is file f e2) taken))

pub file_range : (bytes : List ℕ) (f : File) → file_at bytes ≡ Ok f → AreInRange f.parts
file_range bytes f e = let t = file_takes bytes f e in sections_range f.head t.rest f.parts f.tail t.sections t.limits.vars

pub file_once : (bytes : List ℕ) (f : File) → file_at bytes ≡ Ok f → AreOnce f.parts
file_once bytes f e = let t = file_takes bytes f e in sections_once f.head t.rest f.parts f.tail t.sections

-- the texts of the parts, behind each other
chain_parts : (a x b c d e f g t p q r : List ℕ) → a ≡ x ++ b → b ≡ c ++ d → d ≡ e ++ f → f ≡ g ++ t → t ≡ p ++ q
    → a ≡ x ++ c ++ e ++ g ++ p ++ q
chain_parts a x b c d e f g t p q r e1 e2 e3 e4 e5 =
    e1 ∙ ap (λ k. x ++ k) e2 ∙ sym (append_assoc x c d)
    ∙ ap (λ k. (x ++ c) ++ k) e3 ∙ sym (append_assoc (x ++ c) e f)
    ∙ ap (λ k. (x ++ c ++ e) ++ k) e4 ∙ sym (append_assoc (x ++ c ++ e) g t)
    ∙ ap (λ k. (x ++ c ++ e ++ g) ++ k) e5 ∙ sym (append_assoc (x ++ c ++ e ++ g) p q)

file_text : (bytes : List ℕ) (f : File) (t : TakesFile bytes f)
    → bytes ≡ t.header.text ++ t.sections.inputs.text ++ t.sections.latches.text ++ t.sections.outputs.text
    ++ t.sections.bads.text ++ t.sections.constraints.text ++ t.sections.gates.text ++ f.tail
file_text bytes f t =
    let s = t.sections in
    let four = t.header.text ++ s.inputs.text ++ s.latches.text ++ s.outputs.text in
    let front : bytes ≡ four ++ s.bads.text
    ++ s.rest4 = chain_parts bytes t.header.text t.rest s.inputs.text s.rest1 s.latches.text s.rest2 s.outputs.text s.rest3
    s.bads.text s.rest4 s.rest4 t.header.parts s.inputs.parts s.latches.parts s.outputs.parts s.bads.parts in
    let five = four ++ s.bads.text in
    front ∙ ap (λ (k : List ℕ). five ++ k) s.constraints.parts ∙ sym (append_assoc five s.constraints.text s.rest5)
    ∙ ap (λ (k : List ℕ). (five ++ s.constraints.text) ++ k) s.gates.parts
    ∙ sym (append_assoc (five ++ s.constraints.text) s.gates.text f.tail)

-- what is read, makes a design and ends in a tail is a design
pub file_spells : (bytes : List ℕ) (f : File) → file_at bytes ≡ Ok f → MakesDesign f.parts → IsTail f.head f.tail
    → Spells bytes f.parts
file_spells bytes f e design tail =
    let t = file_takes bytes f e in
    let s = t.sections in
    record {
      head = f.head;
      bads = s.bad_lits;
      sections = record {
        header = t.header.text;
        inputs = s.inputs.text;
        latches = s.latches.text;
        outputs = s.outputs.text;
        bads = s.bads.text;
        constraints = s.constraints.text;
        gates = s.gates.text;
        tail = f.tail;
      };
      bytes_are = file_text bytes f t;
      spelled = record {
        header = t.header.form;
        inputs = s.inputs.lines;
        latches = s.latches.lines;
        outputs = s.outputs.lines;
        bad_lines = s.bads.lines;
        constraints = s.constraints.lines;
        gates = s.gates.lines;
        tail = tail;
      };
      counts = s.counts;
      properties = s.properties;
      file = t.small;
      limits = t.limits;
      range = file_range bytes f e;
      design = design;
    }
