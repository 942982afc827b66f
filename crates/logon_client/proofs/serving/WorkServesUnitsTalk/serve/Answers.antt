use Rattle.logon_client.proofs.ServingLaws.{heard_memory}
use Rattle.logon_client.proofs.serving.WorkServesUnitsTalk.serve.Goals as goal

pub returns-in-Err-clause-answer : goal.returns-in-Err-clause-answer
returns-in-Err-clause-answer g c =
    heard_memory c.args.bytes.now c.args.talk c.args.self (g.Q.Chances.drawing c.args.chances.now).left
