-- What is heard, with the challenges that are drawn for it.
use Rattle.std.proofs.Common.{◌≡◌, ℕ, List, Ok, Err, sym, ap, subst}
use Rattle.outside.specs.declared.action.StepRefused.{StepRefused}
use Rattle.outside.specs.Drawing.{IsRest}
use Rattle.outside.specs.Machine.{AnswersBy, left_by, then_part}
use Rattle.outside.proofs.DrawLaws.{IsRest-refl}
use Rattle.outside.proofs.MachineLaws.{AnswersBy-refused}
use Rattle.ntlm_flags.specs.Flags.{has_flag, negotiate_key_exch}
use Rattle.logon_client.specs.Answering.{drawn_for}
use Rattle.logon_client.specs.declared.answering.Drawn.{Drawn}
use Rattle.logon_client.specs.declared.answering.ServerOffer.{ServerOffer}
use Rattle.logon_client.specs.declared.hearing.Heard.TheVariants.{Challenged}
use Rattle.logon_client.specs.declared.state.Talk.{Talk}
use Rattle.logon_client.specs.declared.state.Work.{Work}
use Rattle.logon_client.specs.Leaving.{heard_rest}
use Rattle.logon_client.specs.Machine.{answers, answers_part, hear, serve_heard, serve_unit}

-- want of memory before anything is drawn
pub heard_memory : (bytes : List ℕ) (talk : Talk) (work : Work) (left : List (List ℕ)) → IsRest (left_by (serve_unit bytes work talk left)) left
heard_memory bytes talk work left = heard_rest (hear bytes talk work) left

-- the challenges weren't enough, or no memory was found for them
pub drawn_refused : (why : StepRefused) (offer : ServerOffer) (link : ℕ) (work : Work) (before after : List (List ℕ)) →
    AnswersBy (Err why) (drawn_for (has_flag offer.flags negotiate_key_exch) before) after →
    AnswersBy (Err why) (serve_heard (Challenged work link offer) before) after
drawn_refused why offer link work before after answer =
    AnswersBy-refused why (drawn_for (has_flag offer.flags negotiate_key_exch) before) (answers_part offer link work) after
    (λ drawn more. IsRest-refl more) answer

-- the challenges that an answer needs were drawn
pub drawn_answered : (offer : ServerOffer) (link : ℕ) (work : Work) (drawn : Drawn) (before after : List (List ℕ)) →
    drawn_for (has_flag offer.flags negotiate_key_exch) before ≡ Ok (record { value = drawn; left = after }) →
    serve_heard (Challenged work link offer) before ≡ Ok (record { value = answers offer drawn link work; left = after })
drawn_answered offer link work drawn before after is = ap (λ part. then_part part (answers_part offer link work)) is

-- the challenges were drawn, and no memory was found
pub drawn_memory : (offer : ServerOffer) (link : ℕ) (work : Work) (drawn : Drawn) (before after : List (List ℕ)) →
    drawn_for (has_flag offer.flags negotiate_key_exch) before ≡ Ok (record { value = drawn; left = after }) →
    IsRest (left_by (serve_heard (Challenged work link offer) before)) after
drawn_memory offer link work drawn before after is =
    subst (λ part. IsRest (left_by part) after) (sym (drawn_answered offer link work drawn before after is)) (IsRest-refl after)

pub ruleset serving = (heard_memory, drawn_refused, drawn_answered, drawn_memory)
