use Rattle.std.proofs.Common.{◌≡◌, ℕ, List, true, sym, subst}
use Rattle.aig_model.specs.Netlist.{circuit}
use Rattle.ja_project.specs.Start.{starts}
use Rattle.ja_project.proofs.ForeignLemmas.{own_is_below}
use Rattle.ic3_general.proofs.CutLemmas.{AreAmong, own_of_part, part_from_members, without_is_among}
use Rattle.ic3_general.proofs.shrinking.candidate.Goals as goal

pub starts-begins-requires : goal.starts-begins-requires
starts-begins-requires c =
    let n = c.args.table.now in
    let left : List ℕ = c.args.left.now.clause in
    let tried : List ℕ = c.in_ok-tried.tried in
    let among : AreAmong tried left = subst (λ (ls : List ℕ). AreAmong ls left) (sym c.in_ok-tried.ensures)
    (without_is_among c.args.lit left) in
    own_is_below n c.requires.sound tried (own_of_part (circuit n) tried left among c.requires.own)

pub returns-clause-part : goal.returns-clause-part
returns-clause-part c =
    let n = c.args.table.now in
    let left : List ℕ = c.args.left.now.clause in
    let tried : List ℕ = c.in_ok-tried.tried in
    let among : AreAmong tried left = subst (λ (ls : List ℕ). AreAmong ls left) (sym c.in_ok-tried.ensures)
    (without_is_among c.args.lit left) in
    let begins : starts (circuit n) tried ≡ true = cc in
    record {
      within = part_from_members tried left among;
      own = own_of_part (circuit n) tried left among c.requires.own;
      begins = begins;
    }
