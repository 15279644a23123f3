-- Each definition of a sound netlist has a variable of its own.
use Rattle.std.proofs.Common.{◌≡◌, ℕ, ◌+◌, ◌<◌, List, ◌++◌, Some, length, map, get_or, sym, ap, ◌∙◌, arith, length-append}
use Rattle.std.specs.Prelude.{slice_get}
use Rattle.std.proofs.lemmas.List.{get_or_append_left, get_or-append-add, get_or-map}
use Rattle.std.proofs.lemmas.Option.{slice_get_within, get_or_from_slice_get}
use Rattle.aig_model.specs.Netlist.{Netlist, AreApart, IsSound, gate_var}
use Rattle.aig_eval.specs.Rows.{input_vars, latch_vars}

-- what a list made from another has at the place of an item
pub map_at : {A B : Type 0} (f : A → B) (xs : List A) (k : ℕ) (x : A) (d : B) → slice_get xs k ≡ Some x
    → get_or (map f xs) k d ≡ f x
map_at f xs k x d e = get_or-map f xs k x d (slice_get_within xs k x e) ∙ ap f (get_or_from_slice_get xs k x x e)

-- no number stands in both lists
abbrev pub AreDisjoint : List ℕ → List ℕ → Type 0
AreDisjoint xs ys = (i j : ℕ) → i < length xs → j < length ys → get_or xs i 0 ≡ get_or ys j 0 → ⊥

pub AreApart-left : (xs ys : List ℕ) → AreApart (xs ++ ys) → AreApart xs
AreApart-left xs ys apart i j ij jn same =
    apart i j ij (omega (arith, length-append xs ys))
    (get_or_append_left xs ys 0 i (omega arith) ∙ same ∙ sym (get_or_append_left xs ys 0 j jn))

pub AreApart-right : (xs ys : List ℕ) → AreApart (xs ++ ys) → AreApart ys
AreApart-right xs ys apart i j ij jn same =
    apart (length xs + i) (length xs + j) (omega arith) (omega (arith, length-append xs ys))
    (get_or-append-add xs ys i 0 ∙ same ∙ sym (get_or-append-add xs ys j 0))

pub AreApart-between : (xs ys : List ℕ) → AreApart (xs ++ ys) → AreDisjoint xs ys
AreApart-between xs ys apart i j ix jy same =
    apart i (length xs + j) (omega arith) (omega (arith, length-append xs ys))
    (get_or_append_left xs ys 0 i ix ∙ same ∙ sym (get_or-append-add xs ys j 0))

pub AreDisjoint-left : (xs ys zs : List ℕ) → AreDisjoint (xs ++ ys) zs → AreDisjoint xs zs
AreDisjoint-left xs ys zs apart i j ix jz same =
    apart i j (omega (arith, length-append xs ys)) jz (get_or_append_left xs ys 0 i ix ∙ same)

pub AreDisjoint-right : (xs ys zs : List ℕ) → AreDisjoint (xs ++ ys) zs → AreDisjoint ys zs
AreDisjoint-right xs ys zs apart i j iy jz same =
    apart (length xs + i) j (omega (arith, length-append xs ys)) jz (get_or-append-add xs ys i 0 ∙ same)

-- the gates' variables, in order
abbrev pub gate_vars : Netlist → List ℕ
gate_vars n = map gate_var n.gates

pub record HasOwnVars (n : Netlist) : Type 0 where
  pub inputs : AreApart (input_vars n)
  pub latches : AreApart (latch_vars n)
  pub gates : AreApart (gate_vars n)
  pub input_latch : AreDisjoint (input_vars n) (latch_vars n)
  pub input_gate : AreDisjoint (input_vars n) (gate_vars n)
  pub latch_gate : AreDisjoint (latch_vars n) (gate_vars n)

pub own_vars : (n : Netlist) → IsSound n → HasOwnVars n
own_vars n sound =
    let front = AreApart-left (input_vars n ++ latch_vars n) (gate_vars n) sound.once in
    let between = AreApart-between (input_vars n ++ latch_vars n) (gate_vars n) sound.once in
    record {
      inputs = AreApart-left (input_vars n) (latch_vars n) front;
      latches = AreApart-right (input_vars n) (latch_vars n) front;
      gates = AreApart-right (input_vars n ++ latch_vars n) (gate_vars n) sound.once;
      input_latch = AreApart-between (input_vars n) (latch_vars n) front;
      input_gate = AreDisjoint-left (input_vars n) (latch_vars n) (gate_vars n) between;
      latch_gate = AreDisjoint-right (input_vars n) (latch_vars n) (gate_vars n) between;
    }
