use Rattle.std.proofs.lemmas.Result.{IfOk-weaker}
use Rattle.ntlm_messages.specs.Authenticate.{CanWriteAuthenticate}
use Rattle.logon_client.proofs.AnsweringLaws.{message_writable}
use Rattle.logon_client.proofs.answering.make_answer.Goals as goal

pub returns-clause-writable : goal.returns-clause-writable
returns-clause-writable c =
    IfOk-weaker c.answer_by.result _ (λ a. CanWriteAuthenticate a.message)
    (λ a e. rw e (message_writable c.args.plan.now c.args.offer.now c.in_ok-responses.responses c.in_ok-keys.keys)) c.answer_by.ensures
