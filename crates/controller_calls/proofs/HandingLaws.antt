-- A controller that can ask no trust hands nothing on. It serves `what_asks_nobody_is_judged_here`.
use Rattle.std.proofs.Common.{◌≡◌, ℕ, Bool, true, false, nat_lt, List, Option, Some, None, refl, ap, arith}
use Rattle.std.proofs.lemmas.Bool.Decides.{nat_tests}
use Rattle.wire_base.specs.declared.authenticator.Authenticator.{Authenticator}
use Rattle.wire_base.specs.Maps.{lookup}
use Rattle.wire_base.specs.Names.{same_name}
use Rattle.authenticators.specs.SecureChannels.{SecureChannelState, return_by, passes_on, channel_by, key_of_channel}
use Rattle.account_table.specs.declared.table.Route.{Route}
use Rattle.account_table.specs.declared.table.Route.TheVariants as route
use Rattle.account_table.specs.AccountTable.{AccountTable}
use Rattle.account_table.specs.LookUps.{route_in}
use Rattle.controller_calls.specs.Asking.{answers_to}
use Rattle.controller_calls.specs.Calls.{asked_of, computer_named, given_in}
use Rattle.controller_calls.specs.Desk.{Desk, desk, put_channel, take_channel}
use Rattle.controller_calls.specs.Handing.{CallPlace, JudgesHere, hands_on, judge_named, judge_on, judge_returned, pass_or_hand, trust_asked, trust_below, trust_by}
use Rattle.controller_calls.specs.Judging.{answer_named, answer_on, answer_return}
use Rattle.controller_calls.specs.Logons.{serves_level}
use Rattle.controller_calls.specs.declared.calls.Asked.{Asked}
use Rattle.controller_calls.specs.declared.calls.Asked.TheVariants as asked
use Rattle.controller_calls.specs.declared.line.Line.{Line}

abbrev place : List ℕ → ℕ → Line → CallPlace
place name now line = record { name = name; now = now; line = line; trusts = 0 }

below_none : (trust : ℕ) → nat_lt trust 0 ≡ false
below_none trust = grind (arith, nat_tests)

nobody : (hands serves : Bool) (to : Route) → trust_by hands serves to 0 ≡ None
nobody true true (route.Trust trust) = ap (λ (hit : Bool). trust_below hit trust) (below_none trust)
nobody true true route.Own = refl
nobody true true route.Elsewhere = refl
nobody true false to = refl
nobody false serves to = refl

pub none_asked : (what : Asked) (kind : Option ℕ) (table : AccountTable) → trust_asked what kind table 0 ≡ None
none_asked (asked.Network info validation) kind table = nobody (hands_on kind) (serves_level validation) (route_in table info.domain)
none_asked (asked.Interactive info validation) kind table = refl
none_asked (asked.Logoff info) kind table = refl
none_asked asked.NetworkLogoff kind table = refl
none_asked (asked.Set account type hidden) kind table = refl

module _ (what : Asked) (name : List ℕ) (now : ℕ) (line : Line) where
  returned : (credential : Option (List ℕ)) (channel : SecureChannelState) (computer : List ℕ) (d : Desk) →
      judge_returned credential channel what (place name now line) computer d
      ≡ (answer_return credential (answers_to what name now line).refused ((answers_to what name now line).passed computer channel) d, None)
  returned None channel computer d = refl
  returned (Some credential) channel computer d =
      ap (λ trust. pass_or_hand trust what (place name now line) computer (key_of_channel channel) credential d) (none_asked what channel.kind d.table)

  on_channel : (found : Option SecureChannelState) (given : Authenticator) (computer : List ℕ) (d : Desk) →
      judge_on found given what (place name now line) computer d ≡ (answer_on found computer given (answers_to what name now line) d, None)
  on_channel None given computer d = refl
  on_channel (Some channel) given computer d =
      returned (return_by (passes_on channel given) channel given) channel computer
      (desk d.table (put_channel computer (channel_by (passes_on channel given) channel given) d.work))

  by_name : (computer : Option (List ℕ)) (given : Option Authenticator) (d : Desk) →
      judge_named computer given what (place name now line) d ≡ (answer_named computer given (answers_to what name now line) d, None)
  by_name None given d = refl
  by_name (Some computer) None d = refl
  by_name (Some computer) (Some given) d =
      on_channel (lookup same_name computer d.work.computers.channels) given computer (desk d.table (take_channel computer d.work))

pub judges_here : JudgesHere
judges_here = record { alone = λ c name now line d. by_name (asked_of c) name now line (computer_named c) (given_in c) d }
