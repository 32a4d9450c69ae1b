use Rattle.std.proofs.Common.{sym}
use Rattle.ipe_gate.specs.Seats.{admin_seen}
use Rattle.ipe_admin.specs.Outcomes.{gate_in, policies_in, written}
use Rattle.ipe_admin.proofs.Lines.{write_after, write_answered, write_switched}
use Rattle.ipe_admin.proofs.laws.writes_are_lines.Goals as goal

pub returns-clause-ran : goal.returns-clause-ran
returns-clause-ran c = λ verdicts policies first entries number may asked a b outcome ran same is.
    c.administrator_runs_one_more.ensures.answers verdicts policies first (admin_seen (gate_in a)) (admin_seen (gate_in b)) entries (written number may asked (policies_in a) outcome) ran
    (write_answered verdicts _ number may asked a b outcome same is) is.gone_on.since (write_switched verdicts _ may asked a b outcome same is)

pub returns-clause-policies : goal.returns-clause-policies
returns-clause-policies c = λ verdicts policies entries number may asked a b outcome same is.
    write_after verdicts policies entries number may asked a b outcome same is
