-- What comes of a call that asks for something on a secure channel, by what it asks (MS-NRPC 3.5.4.4.6, 3.5.4.5.3,
-- 3.5.4.5.4; which levels are served is this project's own choice).
use Rattle.std.specs.Prelude.{ℕ, List}
use Rattle.authenticators.specs.SecureChannels.{key_of_channel}
use Rattle.outside.specs.declared.action.Judged.{Judged}
use Rattle.logon_stubs.specs.Status.{invalid_info_class}
use Rattle.controller_calls.specs.Calls.{asked_of, computer_named, given_in}
use Rattle.controller_calls.specs.Desk.{Desk, desk}
use Rattle.controller_calls.specs.Interactive.{end_session, pass_interactive, pass_logoff, refuse_logoff}
use Rattle.controller_calls.specs.Judging.{CallAnswers, answer_named}
use Rattle.controller_calls.specs.Logons.{pass_network, refuse_logon}
use Rattle.controller_calls.specs.Setting.{refuse_set, set_hash}
use Rattle.controller_calls.specs.declared.calls.Asked.{Asked}
use Rattle.controller_calls.specs.declared.calls.Asked.TheVariants as asked
use Rattle.controller_calls.specs.declared.calls.JudgedCall.{JudgedCall}
use Rattle.controller_calls.specs.declared.line.Line.{Line}
use Rattle.controller_calls.specs.declared.state.Work.{Work}

abbrev pub refuse_asked : Asked → Judged → Line → Work → Work
refuse_asked (asked.Network info validation) how line work = refuse_logon how line validation work
refuse_asked (asked.Interactive info validation) how line work = refuse_logon how line validation work
refuse_asked (asked.Logoff info) how line work = refuse_logoff how line work
refuse_asked asked.NetworkLogoff how line work = refuse_logoff how line work
refuse_asked (asked.Set account kind hidden) how line work = refuse_set how line work

-- by the controller's name, the moment, the computer, the channel's key, and the credential that is returned
abbrev pub pass_asked : Asked → List ℕ → ℕ → Line → List ℕ → List ℕ → List ℕ → Desk → Desk
pass_asked (asked.Network info validation) name now line computer key credential d =
    pass_network name now line info validation key credential d
pass_asked (asked.Interactive info validation) name now line computer key credential d =
    pass_interactive name now line info validation computer key credential d
pass_asked (asked.Logoff info) name now line computer key credential d =
    desk d.table (end_session line info computer credential d.work)
pass_asked asked.NetworkLogoff name now line computer key credential d =
    desk d.table (pass_logoff invalid_info_class line credential d.work)
pass_asked (asked.Set account kind hidden) name now line computer key credential d =
    set_hash account kind hidden line computer key credential d

abbrev pub answers_to : Asked → List ℕ → ℕ → Line → CallAnswers
answers_to what name now line = record {
  refused = λ how work. refuse_asked what how line work;
  passed = λ computer channel credential d. pass_asked what name now line computer (key_of_channel channel) credential d;
}

abbrev pub answer_judged : JudgedCall → List ℕ → ℕ → Line → Desk → Desk
answer_judged c name now line d = answer_named (computer_named c) (given_in c) (answers_to (asked_of c) name now line) d
