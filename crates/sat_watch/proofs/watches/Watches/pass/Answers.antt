use Rattle.std.proofs.Common.{◌≡◌, ℕ, ◌+◌, ◌≤◌, ◌<◌, ◌≢◌, ◌++◌, ◌∷◌, List, [], length, get_or, set, drop, Some, slice_get, sym, subst, ◌∙◌, ap, arith}
use Rattle.std.specs.List.{Contains}
use Rattle.std.proofs.lemmas.List.{get_or_default, get_or-set_other, length-set}
use Rattle.sat_watch.specs.Watching.{Watching, slots_at, IsPassed}
use Rattle.sat_watch.proofs.WatchLemmas.{passed}
use Rattle.sat_watch.proofs.watches.Watches.pass.Goals as goal

-- one list is written, and then another
written : (w : Watching) (l at slot other to i j : ℕ) (before put news : List ℕ) → l < length w.lists → to < length w.lists
    → to ≢ l → slice_get (slots_at w l) at ≡ Some slot → slot < length w.pairs → i ≡ to → j ≡ l → put ≡ slots_at w to ++ slot ∷ []
    → before ≡ slots_at w l → length news + 1 ≡ length before
    → ((s from k : ℕ) → slice_get before at ≡ Some s → from ≤ at → k ≢ s → Contains (drop from before) k
    → Contains (drop from news) k)
    → IsPassed w l at slot other to (record {
      lists = set (set w.lists i put) j news;
      pairs = set w.pairs slot (record { one = other; two = to });
    })
written w l at slot other to i j before put news low within apart is paired e f p b fewer others =
    let P : List ℕ → Type 0 = λ v. length news + 1 ≡ length v in
    let Q : List ℕ → Type 0 = λ v. (s from k : ℕ) → slice_get v at ≡ Some s → from ≤ at → k ≢ s → Contains (drop from v) k
    → Contains (drop from news) k in
    let R : ℕ → Type 0 = λ n. IsPassed w l at slot other to (record {
      lists = set (set w.lists n put) j news;
      pairs = set w.pairs slot (record { one = other; two = to });
    }) in
    let S : ℕ → Type 0 = λ n. IsPassed w l at slot other to (record {
      lists = set (set w.lists to put) n news;
      pairs = set w.pairs slot (record { one = other; two = to });
    }) in
    let T : List ℕ → Type 0 = λ v. IsPassed w l at slot other to (record {
      lists = set (set w.lists to v) l news;
      pairs = set w.pairs slot (record { one = other; two = to });
    }) in
    subst R (sym e) (subst S (sym f) (subst T (sym p)
    (passed w l at slot other to news low within apart is paired (subst P b fewer) (subst Q b others))))

pub returns-clause-passed : goal.returns-clause-passed
returns-clause-passed c =
    let w : Watching = record { lists = c.self.inside.lists.items; pairs = c.self.inside.pairs.items } in
    let lit : ℕ = c.args.lit in
    let to : ℕ = c.args.to in
    let at : ℕ = c.args.at in
    let slot : ℕ = c.args.slot in
    let view : w ≡ c.args.self.now = c.self.view_is in
    let wide = ap (λ (v : Watching). length v.lists) view in
    let low : lit < length w.lists = let r = c.requires.lit in omega (arith, r, wide) in
    let within : to < length w.lists = let r = c.requires.to in omega (arith, r, wide) in
    let I : Watching → Type 0 = λ v. slice_get (slots_at v lit) at ≡ Some slot in
    let paired : slot < length w.pairs =
    let r = c.requires.slot in omega (arith, r, ap (λ (v : Watching). length v.pairs) view) in
    let mid : List (List ℕ) = set w.lists c.number.result c.put.new.self in
    let first : c.index_mut.result.now ≡ slots_at w to =
    c.index_mut.ensures.value ∙ get_or_default w.lists c.number.result c.index_mut.result.now []
    (omega (arith, within, c.number.ensures)) ∙ ap (slots_at w) c.number.ensures in
    let put : c.put.new.self ≡ slots_at w to ++ slot ∷ [] =
    c.if-not-put.ensures.put ∙ ap (λ v. v ++ slot ∷ []) first in
    let apart : lit ≢ c.number.result = λ e. c.requires.apart (sym c.number.ensures ∙ sym e) in
    let less : lit < length mid = omega (arith, low, length-set w.lists c.number.result c.put.new.self) in
    let second : c.index_mut-2.result.now ≡ slots_at w lit =
    c.index_mut-2.ensures.value ∙ get_or_default mid c.number-2.result c.index_mut-2.result.now []
    (omega (arith, less, c.number-2.ensures)) ∙ ap (λ n. get_or mid n []) c.number-2.ensures
    ∙ get_or-set_other w.lists c.number.result lit c.put.new.self [] apart in
    let new : Watching = record {
      lists = set mid c.number-2.result c.take_off.new.self;
      pairs = set w.pairs slot (record { one = c.args.other; two = to });
    } in
    let P : Watching → Type 0 = λ v. IsPassed v lit at slot c.args.other to new in
    subst P view (written w lit at slot c.args.other to c.number.result c.number-2.result c.index_mut-2.result.now c.put.new.self
    c.take_off.new.self low within c.requires.apart (subst I (sym view) c.requires.is) paired c.number.ensures c.number-2.ensures
    put second c.take_off.ensures.fewer c.take_off.ensures.others)
