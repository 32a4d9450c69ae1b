use Rattle.std.proofs.Common.{◌∙◌}
use Rattle.ipe_sim.proofs.Texts.{header-is, policy_text-made}
use Rattle.ipe_sim.proofs.declared.policy_text.Goals as goal

pub returns : goal.returns
returns c =
    c.from_vec.ensures
    ∙ policy_text-made c.args.number c.new-text.result.items c.as_str.result.now c.append_line.new.text.items
    c.append_line-2.new.text.items c.append_line-3.new.text.items c.append_line-4.new.text.items
    c.default_line.result.now c.new-text.ensures.items
    (c.as_str.ensures.value ∙ header-is c.args.number c.in_ok-header.header.bytes.items c.in_ok-header.ensures.ok)
    c.default_line.ensures c.in_ok-append_line.ensures c.in_ok-append_line-2.ensures c.in_ok-append_line-3.ensures c.in_ok-append_line-4.ensures
