-- The text that a step keeps last is that of the changed accounts as they stand behind it.
-- It serves `what_is_kept_stands`.
use Rattle.std.proofs.Common.{◌≡◌, ◌==◌, ℕ, List, [], ◌∷◌, ◌++◌, Option, Some, None, refl, sym, ap, ◌∙◌, append_assoc}
use Rattle.std.proofs.lemmas.List.{append-nil}
use Rattle.std.specs.List.{AllByRecursion}
use Rattle.authenticators.specs.SecureChannels.{key_of_channel}
use Rattle.outside.specs.declared.action.Action.{Action}
use Rattle.outside.specs.declared.action.Action.TheVariants as action
use Rattle.outside.specs.declared.action.Judged.{Judged}
use Rattle.outside.specs.declared.action.Judged.TheVariants as judged
use Rattle.interactive_logon.specs.declared.sessions.Session.{Session}
use Rattle.account_table.specs.AccountTable.{AccountTable}
use Rattle.account_table.specs.Changes.{DifferInCounts}
use Rattle.account_table.specs.LookUps.{machine_in}
use Rattle.account_table.specs.Secrets.{secrets_of}
use Rattle.account_table.proofs.KeptLaws.{uncounted}
use Rattle.secret_change.specs.Hiding.{show_of}
use Rattle.end_loop.specs.Runs.{actions_of}
use Rattle.controller_calls.specs.Calls.{asked_of, computer_named}
use Rattle.controller_calls.specs.Desk.{Desk, desk}
use Rattle.controller_calls.specs.Doing.{Done, done_asked, kept_asked, kept_if, set_so, done_by, computer_or_none}
use Rattle.controller_calls.specs.Logons.{serves_level}
use Rattle.controller_calls.specs.declared.calls.Asked.{Asked}
use Rattle.controller_calls.specs.declared.calls.Asked.TheVariants as asked
use Rattle.controller_calls.specs.declared.calls.ControllerCall.{ControllerCall}
use Rattle.controller_calls.specs.declared.calls.ControllerCall.TheVariants as call
use Rattle.controller_calls.specs.declared.line.Line.{Line}
use Rattle.controller_calls.specs.declared.state.Work.{Work}
use Rattle.controller_calls.proofs.OutcomeLaws.{JudgedComes, Passes, Refused}
use Rattle.controller_calls.specs.declared.calls.JudgedCall.{JudgedCall}
use Rattle.domain_controller.specs.Keeping.{KeepsSecrets, text_after}
use Rattle.domain_controller.proofs.UnsetLaws.{interactive_levels, levels}
use Rattle.domain_controller.proofs.TrustWalkLaws.{TrustWalks, trust_leads}
use Rattle.domain_controller.proofs.WalkLaws.{DeskWalks, TellsNothing, desk_leads}

-- ---- what is told and kept, by the calls

record KeptTrail (calls : List ControllerCall) (before after : Desk) : Type 0 where
  new : List Action
  actions : after.work.actions ≡ before.work.actions ++ new
  text : text_after (secrets_of before.table.accounts) new ≡ secrets_of after.table.accounts

text_join : (text : List ℕ) (one two : List Action) → text_after text (one ++ two) ≡ text_after (text_after text one) two
text_join text [] two = refl
text_join text (action.Keep bytes ∷ one) two = text_join bytes one two
text_join text (action.Send link bytes ∷ one) two = text_join text one two
text_join text (action.Dial peer ∷ one) two = text_join text one two
text_join text (action.Close link cause ∷ one) two = text_join text one two
text_join text (action.Told link outcome ∷ one) two = text_join text one two
text_join text (action.Judged how ∷ one) two = text_join text one two

join_kept : (one two : List ControllerCall) (a b c : Desk) → KeptTrail one a b → KeptTrail two b c → KeptTrail (one ++ two) a c
join_kept one two a b c first second = record {
  new = first.new ++ second.new;
  actions = second.actions ∙ ap (λ (old : List Action). old ++ second.new) first.actions ∙ append_assoc a.work.actions first.new second.new;
  text = text_join (secrets_of a.table.accounts) first.new second.new
      ∙ ap (λ (text : List ℕ). text_after text second.new) first.text
      ∙ second.text;
}

-- ---- a call on a channel

counts_keep : (old new : AccountTable) → DifferInCounts old new → secrets_of old.accounts ≡ secrets_of new.accounts
counts_keep old new differ = sym (uncounted old.accounts) ∙ ap secrets_of (sym differ.accounts) ∙ uncounted new.accounts

set_keeps : (place : Option ℕ) (hash : List ℕ) (table : AccountTable) (sessions : List Session) (how : Judged) (link : ℕ) (bytes : List ℕ) →
    text_after (secrets_of table.accounts) (kept_if ((set_so place hash table sessions).status == 0) (set_so place hash table sessions).table ++ action.Judged how ∷ action.Send link bytes ∷ [])
    ≡ secrets_of (set_so place hash table sessions).table.accounts
set_keeps None hash table sessions how link bytes = refl
set_keeps (Some place) hash table sessions how link bytes = refl

asked_keeps : (what : Asked) (computer key name : List ℕ) (table : AccountTable) (now : ℕ) (sessions : List Session) (how : Judged) (link : ℕ) (bytes : List ℕ) →
    text_after (secrets_of table.accounts) (kept_asked what (done_asked what computer key name table now sessions) ++ action.Judged how ∷ action.Send link bytes ∷ [])
    ≡ secrets_of (done_asked what computer key name table now sessions).table.accounts
asked_keeps (asked.Network info validation) computer key name table now sessions how link bytes =
    counts_keep table _ (levels (serves_level validation) table name info now)
asked_keeps (asked.Interactive info validation) computer key name table now sessions how link bytes =
    counts_keep table _ (interactive_levels (serves_level validation) table name now info key)
asked_keeps (asked.Logoff info) computer key name table now sessions how link bytes = refl
asked_keeps asked.NetworkLogoff computer key name table now sessions how link bytes = refl
asked_keeps (asked.Set account kind hidden) computer key name table now sessions how link bytes =
    set_keeps (machine_in table.accounts account kind computer) (show_of key hidden) table sessions how link bytes

passed_kept : (c : JudgedCall) (name : List ℕ) (now : ℕ) (line : Line) (d after : Desk) → JudgedComes c name now line d after → KeptTrail (call.Judged c ∷ []) d after
passed_kept c name now line d after (Refused how away) = record {
  new = _;
  actions = away.actions;
  text = ap (λ (table : AccountTable). secrets_of table.accounts) (sym away.table);
}
passed_kept c name now line d after (Passes next is) =
    let done : Done = done_by c next.channel name d.table now d.work.computers.sessions in
    record {
      new = _;
      actions = is.actions;
      text = asked_keeps (asked_of c) (computer_or_none (computer_named c)) (key_of_channel next.channel) name d.table now d.work.computers.sessions (judged.Passed done.status) line.link _
          ∙ ap (λ (table : AccountTable). secrets_of table.accounts) (sym is.table);
    }

-- ---- a step

one_sent : (c : ControllerCall) (d : Desk) (work : Work) (link : ℕ) (bytes : List ℕ) → work.actions ≡ d.work.actions ++ action.Send link bytes ∷ [] → KeptTrail (c ∷ []) d (desk d.table work)
one_sent c d work link bytes is = record { new = action.Send link bytes ∷ []; actions = is; text = refl }

kept_walks : (name : List ℕ) (now : ℕ) → DeskWalks name now KeptTrail
kept_walks name now = record {
  same = λ d. record { new = []; actions = sym (append-nil d.work.actions); text = refl };
  join = join_kept;
  acts = λ d what quiet. record { new = what ∷ []; actions = refl; text = quiet.text (secrets_of d.table.accounts) };
  unknown = λ line c server d. one_sent (call.Challenge c) d _ _ _ refl;
  known = λ line c server d. one_sent (call.Challenge c) d _ _ _ refl;
  denied = λ line c status d. one_sent (call.Authenticate c) d _ _ _ refl;
  accepted = λ line c d opens. one_sent (call.Authenticate c) d _ _ _ refl;
  judged = λ line c d after comes. passed_kept c name now line d after comes;
}

-- what is sent beside keeps no text
quiet_text : (new : List Action) (text : List ℕ) → AllByRecursion TellsNothing new → text_after text new ≡ text
quiet_text [] text all = refl
quiet_text (what ∷ new) text all = ap (λ (kept : List ℕ). text_after kept new) (all.0.text text) ∙ quiet_text new text all.1

trust_kept_walk : (name : List ℕ) (now : ℕ) → TrustWalks name now KeptTrail
trust_kept_walk name now = record {
  base = kept_walks name now;
  moved = λ c d after is. record {
    new = action.Judged is.how ∷ is.new;
    actions = is.actions;
    text = quiet_text is.new (secrets_of d.table.accounts) is.quiet ∙ ap (λ (table : AccountTable). secrets_of table.accounts) (sym is.table);
  };
  turns = λ d what is. record { new = what ∷ []; actions = refl; text = is.text (secrets_of d.table.accounts) };
}

pub keeps_secrets : KeepsSecrets
keeps_secrets = record {
  text = λ s what now left.
      desk_leads (λ stepped. text_after (secrets_of s.table.accounts) (actions_of stepped) ≡ secrets_of stepped.state.table.accounts) KeptTrail s what now left (kept_walks s.name now) (record {
        stopped = λ none. refl;
        spent = λ running is. refl;
        taken = λ running after links rest is leads. ap (λ (actions : List Action). text_after (secrets_of s.table.accounts) actions) leads.actions ∙ leads.text;
      });
  trusting = λ s what now left.
      trust_leads (λ stepped. text_after (secrets_of s.table.accounts) (actions_of stepped) ≡ secrets_of stepped.state.table.accounts) KeptTrail s what now left (trust_kept_walk s.name now) (record {
        stopped = λ none. refl;
        spent = λ running is. refl;
        taken = λ running after rest is leads. ap (λ (actions : List Action). text_after (secrets_of s.table.accounts) actions) leads.actions ∙ leads.text;
      });
}
