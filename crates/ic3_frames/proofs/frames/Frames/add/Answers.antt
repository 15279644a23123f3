use Rattle.std.proofs.Common.{rules, ◌≡◌, ◌<◌, ◌≤◌, List, not, length, sym, ap, ◌∙◌, subst, arith}
use Rattle.std.specs.Prelude.{All, filter}
use Rattle.std.proofs.lemmas.Fn.{filter_same}
use Rattle.ic3_frames.specs.Levels.{Entry, Levels, added, takes_place}
use Rattle.ic3_frames.proofs.LevelLemmas.{added_is, All-added, added_is_short}
use Rattle.ic3_frames.proofs.frames.Frames.add.Goals as goal

left : (c : goal.After-push_reserved) → c.retain.new.self.items ≡ filter (λ e. not (takes_place c.new-new.result e)) c.reserve.new.self.items
left c = filter_same _ _ _ (λ x b f' k. search rules) _ _ c.retain.ensures.filtered

is_added : (c : goal.After-push_reserved) → c.push_reserved.new.self.items ≡ added c.args.clause c.args.level c.self.inside.kept.items
is_added c =
    added_is c.args.clause c.args.level c.new-new.result c.self.inside.kept.items c.reserve.new.self.items c.retain.new.self.items
    c.push_reserved.new.self.items c.new-new.ensures c.reserve.ensures.items (left c) c.push_reserved.ensures.items

pub invariant_of-self-2 : goal.invariant_of-self-2
invariant_of-self-2 c =
    let kept : List Entry = c.self.inside.kept.items in
    let seen : length kept ≡ length c.args.self.now.kept = ap (λ (f : Levels). length f.kept) c.self.view_is in
    let P : Entry → Type 0 = λ e. (1 ≤ e.level) × (e.level ≤ c.self.inside.top) in
    let Q : List Entry → Type 0 = All P in
    let R : List Entry → Type 0 = λ xs. length xs < 4294967296 in
    let top : c.self.inside.top ≡ c.args.self.now.top = ap (λ (f : Levels). f.top) c.self.view_is in
    record {
      levels = subst Q (sym (is_added c)) (All-added c.args.clause c.args.level P kept c.self.invariant.levels
          (c.requires.low, omega (arith, c.requires.high, top)));
      short = subst R (sym (is_added c)) (omega (arith, added_is_short c.args.clause c.args.level kept, seen, c.len.ensures, c.if-len.false));
    }

pub returns-clause-kept : goal.returns-clause-kept
returns-clause-kept c = is_added c ∙ ap (λ (f : Levels). added c.args.clause c.args.level f.kept) c.self.view_is
