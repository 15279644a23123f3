use Rattle.std.proofs.Common.{◌≡◌, ℕ, ◌+◌, List, drop, Option, Some, option_map, sym, ap, ◌∙◌, arith}
use Rattle.std.proofs.lemmas.Grind.{common_steps}
use Rattle.std.proofs.lemmas.Option.{gets}
use Rattle.ja_outside.specs.Files.{left_at}
use Rattle.ja_outside.specs.Shelf.{Moves}
use Rattle.ja_outside.proofs.mem_shelf.MemShelfShelf.read.Goals as goal

-- a file at a place of the shelf is read as the file by itself is
Moves-content : (content left : Option (List ℕ)) (file buf : List ℕ) (at n : ℕ) → left ≡ option_map (drop at) content
    → content ≡ Some file → Moves (Some (drop at file)) (Some (drop (at + n) file)) n buf
    → Moves left (option_map (drop (at + n)) content) n buf
Moves-content content left file buf at n e is moved = rw (e, is) moved

pub returns-clause-ok : goal.returns-clause-ok
returns-clause-ok c =
    let seen : left_at c.self.inside.files.items c.self.inside.selected ≡ c.args.self.now.left = ap
    (λ s. s.left) c.self.view_is in
    let at_place = sym seen ∙ ap (left_at c.self.inside.files.items) c.unwrap-place.ensures in
    Moves-content _ _ c.as_slice-file.result.now _ _ _ at_place (grind (arith, common_steps, gets)) c.give-given.ensures.moved
