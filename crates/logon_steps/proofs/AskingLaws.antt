-- One logon on a secure channel, at the end that asks.
-- Of `logons_are_asked`.
use Rattle.std.proofs.Common.{◌≡◌, ℕ, Bool, true, List, Option, Some, refl, ap, ◌∙◌}
use Rattle.std.specs.Prelude.{bytes_eq}
use Rattle.std.proofs.lemmas.Slice.Eq.{bytes_eq-Decides}
use Rattle.authenticators.specs.Sequences.{return_of}
use Rattle.channel_client.specs.Machine.{judge_awaited, judge_credential, judge_flags, judge_logon, judge_status, level_asked, server_credential, settle}
use Rattle.channel_client.specs.declared.state.Standing.TheVariants as standing
use Rattle.channel_client.specs.declared.state.Step.TheVariants as step
use Rattle.channel_client.specs.declared.state.Question.TheVariants as question
use Rattle.channel_client.specs.State.{Requester}
use Rattle.wire_base.specs.declared.authenticator.Authenticator.{Authenticator}
use Rattle.authenticators.specs.SecureChannels.{after_call, after_return, key_of_channel}
use Rattle.logon_steps.specs.Asking.{LogonsAreAsked, asking_keeping}

pub same_bytes : (bytes : List ℕ) → bytes_eq bytes bytes ≡ true
same_bytes bytes = (bytes_eq-Decides bytes bytes).1 refl

pub logons_are_asked : LogonsAreAsked
logons_are_asked = record {
  waits = λ caller how info place number. refl;
  opens = λ caller info place number timestamp challenge. refl;
  proves = λ caller client server info place number timestamp challenge. refl;
  asks = λ caller o info place number timestamp challenge. refl;
  half = λ caller info place number other client server next. refl;
  opened = λ caller info place number other flags client server next fits.
      let s : Requester = asking_keeping caller (standing.Half client server) info place number (Some (record { number = other; place = place; step = step.Reply question.Authenticate })) next in
      ap (λ (same : Bool). settle (judge_credential same caller.secret client server flags) s) (same_bytes (server_credential caller.secret client server))
      ∙ ap (λ (fit : Bool). settle (judge_flags fit caller.secret client server) s) fits;
  granted = λ caller o info sam place number other timestamp moment authoritative next.
      let s : Requester = asking_keeping caller (standing.Open (after_call o timestamp)) info place number (Some (record { number = other; place = place; step = step.Reply question.Logon })) next in
      ap (λ (same : Bool). settle (judge_awaited same 0 level_asked (Some sam) (after_call o timestamp)) s) (same_bytes (return_of (key_of_channel o) o.seed timestamp));
  refused = λ caller o info sam place number other timestamp moment level authoritative status next denied zero.
      let s : Requester = asking_keeping caller (standing.Open (after_call o timestamp)) info place number (Some (record { number = other; place = place; step = step.Reply question.Logon })) next in
      let returned : Option Authenticator = Some (record { credential = return_of (key_of_channel o) o.seed timestamp; timestamp = moment }) in
      ap (λ (d : Bool). settle (judge_logon d (standing.Open (after_call o timestamp)) returned status level sam) s) denied
      ∙ ap (λ (same : Bool). settle (judge_awaited same status level sam (after_call o timestamp)) s) (same_bytes (return_of (key_of_channel o) o.seed timestamp))
      ∙ ap (λ (z : Bool). settle (judge_status z status level sam (after_return true (after_call o timestamp))) s) zero;
}
