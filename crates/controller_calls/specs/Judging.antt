-- How a call that asks for something on a secure channel is judged, whatever it asks (MS-NRPC 3.1.4.5): by the channel
-- of the computer that it names and by its authenticator. A credential has 8 bytes.
use Rattle.std.specs.Prelude.{ℕ, List, Option, Some, None}
use Rattle.wire_base.specs.Maps.{lookup}
use Rattle.wire_base.specs.Names.{same_name}
use Rattle.wire_base.specs.declared.authenticator.Authenticator.{Authenticator}
use Rattle.authenticators.specs.SecureChannels.{SecureChannelState, passes_on, return_by, channel_by}
use Rattle.outside.specs.declared.action.Judged.{Judged}
use Rattle.outside.specs.declared.action.Judged.TheVariants as judged
use Rattle.controller_calls.specs.Desk.{Desk, desk, put_channel, take_channel}
use Rattle.controller_calls.specs.declared.state.Work.{Work}

-- How a call is answered.
pub record CallAnswers : Type 0 where
  -- where there is no channel, or the call's authenticator doesn't pass, as the call was judged
  pub refused : Judged → Work → Work
  -- where the call passes: by the computer, its channel as it stood before the call, and the credential that is
  -- returned
  pub passed : List ℕ → SecureChannelState → List ℕ → Desk → Desk

-- by the credential that is returned, where the authenticator passes
abbrev pub answer_return : Option (List ℕ) → (Judged → Work → Work) → (List ℕ → Desk → Desk) → Desk → Desk
answer_return None refused passed d = desk d.table (refused judged.Barred d.work)
answer_return (Some credential) refused passed d = passed credential d

-- on the computer's channel, whose seed moves on exactly where the authenticator passes
abbrev pub answer_on : Option SecureChannelState → List ℕ → Authenticator → CallAnswers → Desk → Desk
answer_on None computer given answers d = desk d.table (answers.refused judged.NoChannel d.work)
answer_on (Some channel) computer given answers d =
    answer_return (return_by (passes_on channel given) channel given) answers.refused (answers.passed computer channel)
    (desk d.table (put_channel computer (channel_by (passes_on channel given) channel given) d.work))

-- by the computer that the call names, and its authenticator
abbrev pub answer_named : Option (List ℕ) → Option Authenticator → CallAnswers → Desk → Desk
answer_named None given answers d = desk d.table (answers.refused judged.NoChannel d.work)
answer_named (Some computer) None answers d = desk d.table (answers.refused judged.NoChannel d.work)
answer_named (Some computer) (Some given) answers d =
    answer_on (lookup same_name computer d.work.computers.channels) computer given answers (desk d.table (take_channel computer d.work))
