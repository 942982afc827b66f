-- What is written down of the units that a client serves (this project's own choice): the AUTHENTICATE that it makes,
-- read off its own machine.
use Rattle.std.specs.Prelude.{ℕ, ◌==◌, ◌++◌, Bool, true, false, List, [], ◌∷◌, Option, Some, None, Result, Ok, Err}
use Rattle.ntlm_flags.specs.Flags.{has_flag, negotiate_key_exch}
use Rattle.ntlm_messages.specs.Authenticate.{authenticate_fields, written_authenticate}
use Rattle.ntlm_messages.specs.Fields.{form_of}
use Rattle.ntlm_messages.specs.declared.refused.WriteRefused.{WriteRefused}
use Rattle.outside.specs.declared.action.StepRefused.{StepRefused}
use Rattle.outside.specs.declared.event.Event.TheVariants as event
use Rattle.outside.specs.Machine.{Part}
use Rattle.rpc_units.specs.Stream.{cut_stream}
use Rattle.end_links.specs.Links.{LinkState}
use Rattle.end_links.specs.Serving.{ServedUnit, served_units}
use Rattle.logon_client.specs.Answering.{drawn_for, answer_of}
use Rattle.logon_client.specs.Machine.{client_server, hear, step_of, work_of}
use Rattle.logon_client.specs.State.{State as ClientState}
use Rattle.logon_client.specs.declared.answering.Answer.{Answer}
use Rattle.logon_client.specs.declared.answering.Drawn.{Drawn}
use Rattle.logon_client.specs.declared.answering.ServerOffer.{ServerOffer}
use Rattle.logon_client.specs.declared.hearing.Heard.{Heard}
use Rattle.logon_client.specs.declared.hearing.Heard.TheVariants as heard
use Rattle.logon_client.specs.declared.outcome.ClientOutcome.{ClientOutcome}
use Rattle.logon_client.specs.declared.plan.ClientPlan.{ClientPlan}
use Rattle.logon_client.specs.declared.state.Running.{Running}
use Rattle.logon_client.specs.declared.state.ClientLink.{ClientLink}
use Rattle.logon_client.specs.declared.state.ClientLink.TheVariants.{Idle, Dialling, On}
use Rattle.logon_client.specs.declared.state.Talk.{Talk}
use Rattle.logon_client.specs.declared.state.Work.{Work}
use Rattle.step_notes.specs.MemberNotes.{message_in}
use Rattle.step_notes.specs.Records.{MessageMade}
use Rattle.step_notes.specs.Served.{units_if_taken}

-- ---- the units

abbrev pub units_if : (is_own_link : Bool) → LinkState Talk → List ℕ → ClientPlan → ℕ → List (List ℕ) → List (ServedUnit Work Talk)
units_if false own piece task now left = []
units_if true own piece task now left =
    served_units client_server (cut_stream (own.rest ++ piece)).units (work_of task now) own.talk left

abbrev pub units_standing : ClientLink → ℕ → List ℕ → ClientPlan → ℕ → List (List ℕ) → List (ServedUnit Work Talk)
units_standing Idle number piece task now left = []
units_standing Dialling number piece task now left = []
units_standing (On own) number piece task now left = units_if (number == own.talk.link) own piece task now left

-- a client with its outcome serves nothing
abbrev pub units_by : Option ClientOutcome → Option Running → ℕ → List ℕ → ℕ → List (List ℕ) → List (ServedUnit Work Talk)
units_by (Some outcome) running number piece now left = []
units_by None None number piece now left = []
units_by None (Some running) number piece now left = units_standing running.standing number piece running.task now left

-- the units that the client serves when these bytes come on the link
abbrev pub units_of_client : ClientState → ℕ → List ℕ → ℕ → List (List ℕ) → List (ServedUnit Work Talk)
units_of_client c number piece now left =
    units_if_taken (step_of c (event.Bytes number piece) now left).answer (units_by c.outcome c.running number piece now left)

-- ---- the AUTHENTICATE

-- at which client, on which link, after how many moves
pub record ClientAt : Type 0 where
  pub at : ℕ
  pub client : ℕ
  pub link : ℕ

-- a message that a client made, by its bytes, where it can be written
abbrev pub made_of : Result (List ℕ) WriteRefused → ClientAt → ClientPlan → List ℕ → List ℕ → List MessageMade
made_of (Err why) w plan challenge key = []
made_of (Ok bytes) w plan challenge key = record {
  at = w.at;
  client = w.client;
  link = w.link;
  plan = plan;
  challenge = challenge;
  bytes = bytes;
  key = key;
} ∷ []

abbrev pub made_with : Answer → ClientAt → ClientPlan → List ℕ → List MessageMade
made_with answer w plan challenge =
    made_of (form_of (authenticate_fields answer.message) (written_authenticate answer.message)) w plan challenge answer.key

abbrev pub made_by : Result (Part Drawn) StepRefused → ServerOffer → ClientPlan → ClientAt → List ℕ → List MessageMade
made_by (Err why) offer plan w challenge = []
made_by (Ok part) offer plan w challenge = made_with (answer_of plan offer part.value) w plan challenge

abbrev pub made_heard : Heard → List (List ℕ) → ClientAt → List ℕ → List MessageMade
made_heard (heard.Done work talk) left w challenge = []
made_heard (heard.Challenged work link offer) left w challenge =
    made_by (drawn_for (has_flag offer.flags negotiate_key_exch) left) offer work.task w challenge

-- the message that the client makes for the CHALLENGE in a unit, if it is one
abbrev pub made_note : ClientAt → ServedUnit Work Talk → List MessageMade
made_note w unit = made_heard (hear unit.bytes unit.talk unit.work) unit.left w (message_in unit.bytes)
