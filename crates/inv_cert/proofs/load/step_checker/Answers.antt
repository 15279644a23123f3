use Rattle.ja_project.proofs.ForeignLemmas.{own_fit}
use Rattle.inv_cert.proofs.load.step_checker.Goals as goal

pub add_all-requires : goal.add_all-requires
add_all-requires c =
    own_fit c.args.coded.now.design c.in_ok-checker.ensures.sound c.in_ok-checker.checker.vars c.args.base.now
    c.as_slice.result.now
    c.in_ok-checker.ensures.loaded.vars_are
    c.as_slice.ensures.value c.requires.base
