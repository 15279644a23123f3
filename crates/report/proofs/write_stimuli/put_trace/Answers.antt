use Rattle.std.proofs.Common.{◌++◌, ap, map, decimal, ◌∙◌}
use Rattle.std.specs.List.{flat_map}
use Rattle.local_stim.specs.StimulusText.{bit_character, row_line}
use Rattle.report.proofs.WriteLemmas.{trace_grows}
use Rattle.report.proofs.write_stimuli.put_trace.Goals as goal

pub returns : goal.returns
returns c =
    let m = c.args.stim.now in
    let first = c.in_ok-put_row.ensures ∙ ap (λ row. c.push-2.new.self ++ row_line row) c.first.ensures in
    let rows = c.in_ok-put_rows.ensures ∙ ap (λ rows. c.put_row.new.text ++ flat_map row_line rows) c.inputs.ensures in
    trace_grows c.args.text.now (decimal c.args.prop) (map bit_character m.first) (flat_map row_line m.inputs) _ _ _ _ _ _
    c.in_ok-push.ensures.ok c.in_ok-put_property.ensures
    c.in_ok-push-2.ensures.ok first rows c.in_ok-push-3.ensures.ok
