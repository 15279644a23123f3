-- A file is read as it is spelled, and its lists make a design.
use Rattle.std.proofs.Common.{◌≡◌, ℕ, ◌+◌, ◌*◌, ◌≤◌, cond, eqb, List, ◌++◌, length, map, Result, Ok, refl, sym, ap, subst, ◌∙◌, append_assoc, arith}
use Rattle.std.specs.List.{AllByRecursion, range_with_len}
use Rattle.std.proofs.lemmas.List.FromFn.{length-map-range_with_len}
use Rattle.ja_base.specs.Literals.{variable}
use Rattle.ja_text.specs.Reading.{◌>>=◌}
use Rattle.ja_text.specs.Repeated.{repeated}
use Rattle.ja_text.proofs.ReadingLemmas.{ok_is}
use Rattle.aig_model.specs.declared.netlist.Latch.{Latch}
use Rattle.aig_model.specs.declared.netlist.AndGate.{AndGate}
use Rattle.aig_model.specs.declared.netlist.Parts.{Parts}
use Rattle.aig_model.specs.Netlist.{IsNew, gate_var}
use Rattle.aig_model.specs.Refusals.{AreInRange, MakesDesign}
use Rattle.aiger_lines.specs.declared.form.Form.TheVariants.{Binary}
use Rattle.aiger_lines.specs.declared.sizes.Header.{Header}
use Rattle.aiger_lines.specs.declared.refusal.ReadRefusal.{ReadRefusal}
use Rattle.aiger_lines.specs.Header.{definition_count, IsWithinLimits}
use Rattle.aiger_lines.specs.Lines.{IsLiteralLine, IsUsed, TakesItems}
use Rattle.aiger_lines.specs.Tail.{IsTail}
use Rattle.aiger_lines.specs.Reading.{literal_at, header_at}
use Rattle.aiger_lines.specs.Files.{Counts, File}
use Rattle.aiger_lines.proofs.ListLemmas.{all_with}
use Rattle.aiger_lines.proofs.HeaderLemmas.{TakesHeader, header_takes}
use Rattle.aiger_lines.proofs.SectionLemmas.{literals_take}
use Rattle.aiger_lines.proofs.PartsLemmas.{bind_then, IsLatchInRange, IsGateInRange, range_of_lists, properties_used}
use Rattle.aiger_binary.specs.Grammar.{IsLatchLine, IsGateText, Sections, text_of, AreInOrder, Spells}
use Rattle.aiger_binary.specs.Reading.{State, input_literals, latch_at, gate_at, before_latches, before_gates, sections_at, file_at}
use Rattle.aiger_binary.proofs.OrderLemmas.{AreCounted, counted_numbered, counted_range, counted_new, inputs_counted, AreAll, are_all, IsAbove, makes_design}
use Rattle.aiger_binary.proofs.ItemLemmas.{section_takes}
use Rattle.aiger_binary.proofs.LatchLemmas.{HasNextInRange, latch_step}
use Rattle.aiger_binary.proofs.GateLemmas.{AnyGate, gate_step, gates_above}

-- ---- what is read is spelled so

-- the lists of a file were read: their texts stand there in order, and their literals are counted
pub record TakesSections (h : Header) (bytes : List ℕ) (p : Parts) (tail : List ℕ) : Type 0 where
  pub rest1 : List ℕ
  pub rest2 : List ℕ
  pub rest3 : List ℕ
  pub rest4 : List ℕ
  pub bad_lits : List ℕ
  pub latches : TakesItems IsLatchLine (HasNextInRange h.vars) bytes p.latches rest1
  pub outputs : TakesItems IsLiteralLine (IsUsed h.vars) rest1 p.outputs rest2
  pub bads : TakesItems IsLiteralLine (IsUsed h.vars) rest2 bad_lits rest3
  pub constraints : TakesItems IsLiteralLine (IsUsed h.vars) rest3 p.constraints rest4
  pub gates : TakesItems IsGateText AnyGate rest4 p.gates tail
  pub counts : Counts h p bad_lits
  pub properties : p.bads ≡ cond (eqb h.bads 0) p.outputs bad_lits
  pub input_order : AreCounted (λ l. l) (2 * 1) p.inputs
  pub latch_order : AreCounted (λ (k : Latch). k.lit) (2 * (h.inputs + 1)) p.latches
  pub gate_order : AreCounted (λ (g : AndGate). g.lhs) (2 * (h.inputs + h.latches + 1)) p.gates

-- what follows the gates, and the lists
abbrev lists_of : Header → List Latch → List ℕ → List ℕ → List ℕ → List AndGate → Parts
lists_of h latches outputs bads constraints gates = record {
  vars = h.vars;
  inputs = input_literals h.inputs;
  latches = latches;
  bads = cond (eqb h.bads 0) outputs bads;
  constraints = constraints;
  outputs = outputs;
  gates = gates;
}

-- the lists and states of the sections, one read behind the other
record ReadsSections (size : ℕ) (h : Header) (bytes : List ℕ) (p : Parts) (tail : List ℕ) : Type 0 where
  l : List Latch × State
  o : List ℕ × List ℕ
  b : List ℕ × List ℕ
  c : List ℕ × List ℕ
  g : List AndGate × State
  latches : repeated (latch_at h.vars size) h.latches (before_latches h bytes) ≡ Ok l
  outputs : repeated (literal_at h.vars size) h.outputs l.1.rest ≡ Ok o
  bads : repeated (literal_at h.vars size) h.bads o.1 ≡ Ok b
  constraints : repeated (literal_at h.vars size) h.constraints b.1 ≡ Ok c
  gates : repeated (gate_at size) h.gates (before_gates h c.1) ≡ Ok g
  whole : ◌≡◌ {A = Result (Parts × List ℕ) ReadRefusal} (Ok (lists_of h l.0 o.0 b.0 c.0 g.0, g.1.rest)) (Ok (p, tail))

sections_read : (size : ℕ) (h : Header) (bytes : List ℕ) (p : Parts) (tail : List ℕ) → sections_at size h bytes ≡ Ok (p, tail)
    → ReadsSections size h bytes p tail
unfolding sections_at
sections_read size h bytes p tail e =
    let v = h.vars in
    let y : Parts × List ℕ = (p, tail) in
    let Five = λ (l : List Latch × State) (o b c : List ℕ × List ℕ). λ (g : List AndGate × State). Ok
    (lists_of h l.0 o.0 b.0 c.0 g.0, g.1.rest) in
    let Four = λ (l : List Latch × State) (o b : List ℕ × List ℕ). λ (c : List ℕ × List ℕ). repeated (gate_at size) h.gates
    (before_gates h c.1) >>= Five l o b c in
    let Three = λ (l : List Latch × State) (o : List ℕ × List ℕ). λ (b : List ℕ × List ℕ). repeated
    (literal_at v size) h.constraints b.1 >>= Four l o b in
    let Two = λ (l : List Latch × State). λ (o : List ℕ × List ℕ). repeated (literal_at v size) h.bads o.1 >>= Three l o in
    let One = λ (l : List Latch × State). repeated (literal_at v size) h.outputs l.1.rest >>= Two l in
    bind_then (repeated (latch_at v size) h.latches (before_latches h bytes)) One y e (λ l latches e1.
    bind_then (repeated (literal_at v size) h.outputs l.1.rest) (Two l) y e1 (λ o outputs e2.
    bind_then (repeated (literal_at v size) h.bads o.1) (Three l o) y e2 (λ b bads e3.
    bind_then (repeated (literal_at v size) h.constraints b.1) (Four l o b) y e3 (λ c constraints e4.
    bind_then (repeated (gate_at size) h.gates (before_gates h c.1)) (Five l o b c) y e4 (λ g gates e5.
    record {
      l = l;
      o = o;
      b = b;
      c = c;
      g = g;
      latches = latches;
      outputs = outputs;
      bads = bads;
      constraints = constraints;
      gates = gates;
      whole = e5;
    })))))

sections_spelled : (size : ℕ) (h : Header) (bytes : List ℕ) (p : Parts) (tail : List ℕ) (r : ReadsSections size h bytes p tail)
    → TakesSections h bytes (lists_of h r.l.0 r.o.0 r.b.0 r.c.0 r.g.0) r.g.1.rest
sections_spelled size h bytes p tail r =
    let v = h.vars in
    let latches = section_takes (latch_at v size) IsLatchLine (HasNextInRange v) (λ k. k.lit) (latch_step v size) h.latches
    (before_latches h bytes) r.l.0 r.l.1 (omega arith) r.latches in
    let outputs = literals_take v size h.outputs r.l.1.rest r.o.0 r.o.1 r.outputs in
    let bads = literals_take v size h.bads r.o.1 r.b.0 r.b.1 r.bads in
    let constraints = literals_take v size h.constraints r.b.1 r.c.0 r.c.1 r.constraints in
    let gates = section_takes (gate_at size) IsGateText AnyGate (λ g. g.lhs) (gate_step size) h.gates
    (before_gates h r.c.1) r.g.0 r.g.1 (omega arith) r.gates in
    record {
      rest1 = r.l.1.rest;
      rest2 = r.o.1;
      rest3 = r.b.1;
      rest4 = r.c.1;
      bad_lits = r.b.0;
      latches = latches.0;
      outputs = outputs.0;
      bads = bads.0;
      constraints = constraints.0;
      gates = gates.0;
      counts = record {
        vars = refl;
        inputs = length-map-range_with_len
            (λ i. 2 * i) 1 h.inputs;
        latches = latches.2;
        outputs = outputs.1;
        bad_lines = bads.1;
        constraints = constraints.1;
        gates = gates.2;
      };
      properties = refl;
      input_order = inputs_counted 1 h.inputs;
      latch_order = latches.1;
      gate_order = gates.1;
    }

pub sections_take : (size : ℕ) (h : Header) (bytes : List ℕ) (p : Parts) (tail : List ℕ) → sections_at size h bytes ≡ Ok (p, tail)
    → TakesSections h bytes p tail
sections_take size h bytes p tail e =
    let r = sections_read size h bytes p tail e in
    subst (λ (q : Parts × List ℕ). TakesSections h bytes q.0 q.1)
    (ok_is (lists_of h r.l.0 r.o.0 r.b.0 r.c.0 r.g.0, r.g.1.rest) (p, tail) r.whole) (sections_spelled size h bytes p tail r)

-- ---- literals are in range, and the lists make a design

module _ (h : Header) (bytes : List ℕ) (p : Parts) (tail : List ℕ) where
  pub sections_order : TakesSections h bytes p tail → AreInOrder h p
  sections_order t = record {
    inputs = counted_numbered (λ l. l) (2 * 1) 1 p.inputs refl t.input_order;
    latches = counted_numbered (λ (k : Latch). k.lit) (2 * (h.inputs + 1)) (h.inputs + 1) p.latches refl t.latch_order;
    gates = counted_numbered (λ (g : AndGate). g.lhs) (2 * (h.inputs + h.latches + 1))
        (h.inputs + h.latches + 1) p.gates refl t.gate_order;
  }

  gates_in_range : (gs : List AndGate) → AllByRecursion (λ g. IsNew h.vars g.lhs) gs → AllByRecursion IsAbove gs
      → AllByRecursion (IsGateInRange h.vars) gs
  gates_in_range gs new above =
      all_with (λ (g : AndGate). IsNew h.vars g.lhs) IsAbove (IsGateInRange h.vars)
      (λ g n a. record { lhs = n; rhs0 = omega (arith, n.within, a.rhs0); rhs1 = omega (arith, n.within, a.rhs1) }) gs new above

  pub sections_above : TakesSections h bytes p tail → AllByRecursion IsAbove p.gates
  sections_above t = gates_above t.gates.text p.gates (h.inputs + h.latches + 1) t.gates.lines t.gate_order

  pub sections_range : TakesSections h bytes p tail → definition_count h ≡ h.vars → h.vars ≤ 500000 → AreInRange p
  sections_range t sum few =
      let n = t.counts in
      let inputs = counted_new (λ l. l) h.vars (2 * 1) 1 p.inputs refl (omega arith) (omega (arith, n.inputs)) t.input_order in
      let latches = counted_new (λ (k : Latch). k.lit) h.vars (2 * (h.inputs + 1)) (h.inputs + 1) p.latches refl (omega arith)
      (omega (arith, n.latches)) t.latch_order in
      let gates = counted_new (λ (g : AndGate). g.lhs) h.vars (2 * (h.inputs + h.latches + 1))
      (h.inputs + h.latches + 1) p.gates refl (omega arith) (omega (arith, n.gates)) t.gate_order in
      range_of_lists h.vars p n.vars (omega arith) (record {
        inputs = inputs;
        latches = all_with (λ (k : Latch). IsNew h.vars k.lit) (HasNextInRange h.vars) (IsLatchInRange h.vars)
            (λ k new next. record { lit = new; next = next }) p.latches latches t.latches.range;
        outputs = t.outputs.range;
        bads = properties_used h.vars h.bads p.bads p.outputs t.bad_lits t.properties t.outputs.range t.bads.range;
        constraints = t.constraints.range;
        gates = gates_in_range p.gates gates (sections_above t);
      })

  pub sections_all : TakesSections h bytes p tail → definition_count h ≡ h.vars → AreAll p.vars p
  sections_all t sum =
      let n = t.counts in
      let whole : h.inputs + h.latches + h.gates ≡ p.vars = omega (arith, n.vars) in
      let inputs : map variable p.inputs ≡ range_with_len 1 h.inputs = counted_range (λ l. l)
      (2 * 1) 1 p.inputs refl t.input_order ∙ ap (λ (k : ℕ). range_with_len 1 k) n.inputs in
      let latches : map (λ (k : Latch). variable k.lit) p.latches ≡ range_with_len (h.inputs + 1) h.latches = counted_range
      (λ (k : Latch). k.lit) (2 * (h.inputs + 1)) (h.inputs + 1) p.latches refl t.latch_order
      ∙ ap (λ (k : ℕ). range_with_len (h.inputs + 1) k) n.latches in
      let gates : map gate_var p.gates ≡ range_with_len (h.inputs + h.latches + 1) h.gates = counted_range
      (λ (g : AndGate). g.lhs) (2 * (h.inputs + h.latches + 1)) (h.inputs + h.latches + 1) p.gates refl t.gate_order
      ∙ ap (λ (k : ℕ). range_with_len (h.inputs + h.latches + 1) k) n.gates in
      subst (λ (k : ℕ). AreAll k p) whole (are_all h.inputs h.latches h.gates p inputs latches gates)

  pub sections_design : TakesSections h bytes p tail → definition_count h ≡ h.vars → h.vars ≤ 500000 → MakesDesign p
  sections_design t sum few = makes_design p (sections_range t sum few) (sections_all t sum) (sections_above t)

-- ---- a whole file

-- a file up to its gates was read
pub record TakesFile (bytes : List ℕ) (f : File) : Type 0 where
  pub rest : List ℕ
  pub header : TakesHeader Binary bytes f.head rest
  pub limits : IsWithinLimits Binary f.head
  pub small : length bytes ≤ 67108864
  pub sections : TakesSections f.head rest f.parts f.tail

pub file_takes : (bytes : List ℕ) (f : File) → file_at bytes ≡ Ok f → TakesFile bytes f
unfolding file_at
file_takes bytes f e =
    let Second = λ (head : Header × List ℕ). λ (lists : Parts × List ℕ). Ok
    (record { head = head.0; parts = lists.0; tail = lists.1 }) in
    let First = λ (head : Header × List ℕ). sections_at (length bytes) head.0 head.1 >>= Second head in
    bind_then (header_at Binary bytes) First f e (λ head header e1.
    bind_then (sections_at (length bytes) head.0 head.1) (Second head) f e1 (λ lists sections e2.
    let file : File = record { head = head.0; parts = lists.0; tail = lists.1 } in
    let h = header_takes Binary bytes head.0 head.1 header in
    let taken : TakesFile bytes file = record {
      rest = head.1;
      header = h.0;
      limits = h.1;
      small = h.2;
      sections = sections_take
          (length bytes) head.0 head.1 lists.0 lists.1 sections;
    } in
    subst (λ (k : File). TakesFile bytes k) (ok_is file f e2) taken))

pub file_range : (bytes : List ℕ) (f : File) → file_at bytes ≡ Ok f → AreInRange f.parts
file_range bytes f e = let t =
    file_takes bytes f e in sections_range f.head t.rest f.parts f.tail t.sections t.limits.sum t.limits.vars

pub file_design : (bytes : List ℕ) (f : File) → file_at bytes ≡ Ok f → MakesDesign f.parts
file_design bytes f e = let t =
    file_takes bytes f e in sections_design f.head t.rest f.parts f.tail t.sections t.limits.sum t.limits.vars

-- the texts behind the header
abbrev pub behind_header : Sections → List ℕ
behind_header s = s.latches ++ (s.outputs ++ (s.bads ++ (s.constraints ++ (s.gates ++ s.tail))))

pub regrouped : (s : Sections) → text_of s ≡ s.header ++ behind_header s
regrouped s = simp append_assoc

abbrev texts_of : {bytes : List ℕ} {f : File} → TakesFile bytes f → Sections
texts_of {bytes} {f} t = record {
  header = t.header.text;
  latches = t.sections.latches.text;
  outputs = t.sections.outputs.text;
  bads = t.sections.bads.text;
  constraints = t.sections.constraints.text;
  gates = t.sections.gates.text;
  tail = f.tail;
}

file_text : (bytes : List ℕ) (f : File) (t : TakesFile bytes f) → bytes ≡ text_of (texts_of t)
file_text bytes f t =
    let s = t.sections in
    let behind =
    s.latches.parts ∙ ap (λ (k : List ℕ). s.latches.text ++ k)
    (s.outputs.parts ∙ ap (λ (k : List ℕ). s.outputs.text ++ k)
    (s.bads.parts ∙ ap (λ (k : List ℕ). s.bads.text ++ k)
    (s.constraints.parts ∙ ap (λ (k : List ℕ). s.constraints.text ++ k) s.gates.parts))) in
    t.header.parts ∙ ap (λ (k : List ℕ). t.header.text ++ k) behind ∙ sym (regrouped (texts_of t))

-- what is read and ends in a tail is a design
pub file_spells : (bytes : List ℕ) (f : File) → file_at bytes ≡ Ok f → IsTail f.head f.tail → Spells bytes f.parts
file_spells bytes f e tail =
    let t = file_takes bytes f e in
    let s = t.sections in
    record {
      head = f.head;
      bads = s.bad_lits;
      sections = texts_of t;
      bytes_are = file_text bytes f t;
      spelled = record {
        header = t.header.form;
        latches = s.latches.lines;
        outputs = s.outputs.lines;
        bad_lines = s.bads.lines;
        constraints = s.constraints.lines;
        gates = s.gates.lines;
        tail = tail;
      };
      counts = s.counts;
      order = sections_order f.head t.rest f.parts f.tail s;
      properties = s.properties;
      file = t.small;
      limits = t.limits;
      range = file_range bytes f e;
    }
