-- A whole first logon, by a channel that is opened for it.
-- Of `first_logons_run`.
use Rattle.std.proofs.Common.{ℕ, ◌≤◌, List, [], ◌∷◌, ◌++◌, length, refl, arith}
use Rattle.memo_stubs.specs.Memo.{written_echo_reply, written_echo_request}
use Rattle.memo_stubs.proofs.MemoLaws.{reply_stub, request_stub}
use Rattle.account_table.specs.AccountTable.{AccountTable}
use Rattle.account_table.specs.declared.account.Account.{Account}
use Rattle.controller_calls.specs.declared.state.Computers.{Computers}
use Rattle.logon_client.specs.Machine as steps
use Rattle.world_moves.specs.declared.links.Route.{Route}
use Rattle.world_moves.specs.declared.links.Route.TheVariants.{ToController}
use Rattle.logon_steps.specs.MemoCalls.{ReplyGoes, RequestGoes}
use Rattle.logon_steps.proofs.ClientStepLaws.{echo_are, echo_length}
use Rattle.logon_steps.proofs.MemoCallLaws.{memo_calls_go}
use Rattle.logon_runs.specs.Scenes.LinkScenes.{IsJoined, Meeting, joined}
use Rattle.logon_runs.specs.Runs.{ClientAnswer, asked_at, goes}
use Rattle.logon_runs.specs.FirstLogon.FirstTraces.{FirstLogonSeen}
use Rattle.logon_runs.specs.FirstLogon.FirstLogonRuns.{FirstLogonsRun, after_first, first_turns}
use Rattle.logon_runs.proofs.FirstLogon.FirstLogonTraceLaws.{first_logons_are_seen}
use Rattle.logon_runs.proofs.Scenes.LinkSceneLaws.{meetings_are_seen}
use Rattle.wire_base.proofs.ListLaws.{got_append}

pub joined_still : (g : Meeting) (links : List Route) (machine : Account) (client server : List ℕ) (table : AccountTable) (name : List ℕ) (computers : Computers) (moment : ℕ) →
    IsJoined (joined g links) → IsJoined (after_first g links machine client server table name computers moment)
joined_still g links machine client server table name computers moment is =
    let more : List Route = ToController g.at_member g.at_controller ∷ [] in
    got_append (((joined g links).links ++ more) ++ more) more (length links) _ (got_append ((joined g links).links ++ more) more (length links) _ (got_append (joined g links).links more (length links) _ is))

pub first_logons_run : FirstLogonsRun
first_logons_run = record {
  named = λ s g number before links challenge one two three client server table name account machine computers left moment is none shows.
      let a : ClientAnswer = asked_at challenge one two three moment in
      let so : FirstLogonSeen s g number links a client server table name account machine computers left moment =
      first_logons_are_seen.logon s g number before links challenge one two three client server table name account machine computers left moment is shows in
      meetings_are_seen.ends_named (first_turns number s) (after_first g links machine client server table name computers moment) _ _ 2 so.who.next _ left moment
      (joined_still g links machine client server table name computers moment is.opened.joined) so.back (omega (arith, is.short)) is.units none so.granted;
  echoed = λ s g number before links challenge one two three client server table name account machine computers left moment is some shows.
      let a : ClientAnswer = asked_at challenge one two three moment in
      let end : Meeting = after_first g links machine client server table name computers moment in
      let so : FirstLogonSeen s g number links a client server table name account machine computers left moment =
      first_logons_are_seen.logon s g number before links challenge one two three client server table name account machine computers left moment is shows in
      let bytes : List ℕ = steps.echo_bytes g.task.echo in
      let few : length bytes ≤ 4096 = omega (arith, echo_length g.task.echo, is.opened.can.echo) in
      let asks : RequestGoes 3 g.task.level 3 1 (written_echo_request bytes) so.back.next so.back.later =
      memo_calls_go.request 3 g.task.level 3 1 (written_echo_request bytes) so.back.next so.back.later (omega arith) (omega arith) (omega arith)
      (omega (arith, few, (request_stub bytes few (echo_are g.task.echo)).short)) so.back.sessions in
      let again : ReplyGoes 4 g.task.level 3 (written_echo_reply bytes) asks.next asks.later =
      memo_calls_go.reply 4 g.task.level 3 (written_echo_reply bytes) asks.later asks.next (omega arith) (omega arith)
      (omega (arith, few, (reply_stub bytes few (echo_are g.task.echo)).short)) asks.sessions in
      let still : IsJoined end = joined_still g links machine client server table name computers moment is.opened.joined in
      meetings_are_seen.ends_echoed (goes (goes (first_turns number s))) end _ _ 4 asks.next _ left moment still is.opened.can again
      (meetings_are_seen.echoes (goes (first_turns number s)) end _ 3 _ bytes so.back.next left moment still refl few (echo_are g.task.echo) asks again
      (meetings_are_seen.named (first_turns number s) end _ _ 2 so.who.next _ _ left moment still so.back (omega (arith, is.short)) is.units some refl asks.goes so.granted));
}
