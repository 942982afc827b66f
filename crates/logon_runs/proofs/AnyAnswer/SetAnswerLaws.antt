-- What a controller answers to a call that sets a secret, whatever it keeps.
-- Of `controllers_answer_sets`.
use Rattle.std.proofs.Common.{◌≡◌, ℕ, false, List, [], ◌∷◌, Option, Some, None, refl, sym, ap, ap₂, subst, ◌∙◌, arith, inl, inr}
use Rattle.std.specs.Prelude.{replicate}
use Rattle.wire_base.specs.Maps.{lookup, take_out}
use Rattle.wire_base.specs.Names.{same_name}
use Rattle.wire_base.specs.declared.authenticator.Authenticator.{Authenticator}
use Rattle.wire_base.proofs.MapLaws.{put_others, taken_others}
use Rattle.wire_base.proofs.NameLaws.{IsSameness-same_name}
use Rattle.authenticators.specs.Sequences.{return_of}
use Rattle.authenticators.specs.SecureChannels.{SecureChannelState, channel_by, key_of_channel, passes_on}
use Rattle.authenticators.proofs.BlockLaws.{cred_block, zeros_block}
use Rattle.outside.specs.declared.action.Action.{Action}
use Rattle.outside.specs.declared.action.Action.TheVariants as action
use Rattle.outside.specs.declared.action.Judged.TheVariants as judged
use Rattle.outside.specs.declared.event.Event.TheVariants as event
use Rattle.outside.specs.Machine.{whole_step}
use Rattle.rpc_units.specs.Calls.{bytes_of_call}
use Rattle.logon_stubs.specs.Status.{access_denied, no_trust_sam_account}
use Rattle.secret_change.specs.Hiding.{hide_of, show_of}
use Rattle.secret_change.specs.declared.calls.SetCall.{SetCall}
use Rattle.secret_change.specs.declared.calls.SetReply.{SetReply}
use Rattle.account_table.specs.AccountTable.{AccountTable}
use Rattle.account_table.specs.Changes.{with_hash}
use Rattle.account_table.specs.LookUps.{machine_in}
use Rattle.account_table.specs.Secrets.{secrets_of}
use Rattle.channel_client.specs.declared.caller.Caller.{Caller}
use Rattle.channel_client.specs.Machine.{change_call}
use Rattle.controller_calls.specs.Asking.{answer_judged}
use Rattle.controller_calls.specs.Calls.{computer_named, given_in}
use Rattle.controller_calls.specs.Doing.{IsDoneAs, move_on, set_so}
use Rattle.controller_calls.specs.Passing.{IsNext}
use Rattle.controller_calls.specs.declared.calls.Asked.TheVariants as asked
use Rattle.controller_calls.specs.declared.calls.JudgedCall.TheVariants.{Set}
use Rattle.controller_calls.specs.declared.line.Line.{Line}
use Rattle.controller_calls.specs.declared.state.Computers.{Computers}
use Rattle.controller_calls.proofs.DoneLaws.{channels_left}
use Rattle.controller_calls.proofs.OutcomeLaws.{JudgedComes, Passes, Refused, judged_comes, one_channel, one_given}
use Rattle.domain_controller.specs.Hearing.{bound_talk}
use Rattle.domain_controller.specs.Machine.{Desk, goes_on}
use Rattle.domain_controller.specs.Step.{after_units, first_desk, step_of}
use Rattle.domain_controller.specs.Whole.{InRangeTable}
use Rattle.domain_controller.proofs.WholeParts.{hash_table}
use Rattle.logon_steps.specs.ControllerTurns.{controller_at, turn_link}
use Rattle.logon_steps.specs.Answering.{IsInStep}
use Rattle.logon_steps.specs.SetTurns.{set_request, set_taken}
use Rattle.logon_steps.specs.Turning.{turn_agreed}
use Rattle.logon_steps.proofs.ControllerTurnLaws.{running, stepped}
use Rattle.logon_steps.proofs.SetTurnLaws.{set_asked}
use Rattle.logon_runs.specs.AnyAnswer.ControllerAnswers.{KeepsBut}
use Rattle.logon_runs.specs.AnyAnswer.SetAnswers.{ControllersAnswerSets, ToldSet}

module _ (table : AccountTable) (name : List ℕ) (computers : Computers) (link now number timestamp : ℕ) (caller : Caller) (o : SecureChannelState) (new : List ℕ) (left : List (List ℕ))
    (ranged : InRangeTable table) where
  abbrev call : SetCall
  call = change_call caller o timestamp new

  abbrev line : Line
  line = record { link = link; call = number; context = 0; limit = 5840 }

  abbrev before : Desk
  before = first_desk table (running computers (turn_link link))

  abbrev IsSet : Desk → Type 0
  IsSet d =
      step_of (controller_at table name computers (turn_link link)) (event.Bytes link (bytes_of_call (set_request number call) 5840)) now left
      ≡ stepped table name computers (turn_link link) left (after_units (goes_on d (bound_talk None turn_agreed) left) [] link [])

  abbrev Next : Type 0
  Next = IsNext computers (computer_named (Set call)) (given_in (Set call))

  -- by what is done then
  told_by : (after : Desk) (actions : List Action) → IsSet after → after.work.actions ≡ actions →
      step_of (controller_at table name computers (turn_link link)) (event.Bytes link (bytes_of_call (set_request number call) 5840)) now left
      ≡ whole_step left left actions (controller_at after.table name after.work.computers (turn_link link))
  told_by after actions steps same = steps ∙ ap (λ (all : List Action). whole_step left left all (controller_at after.table name after.work.computers (turn_link link))) same

  -- the channels of other computers, once this one's has moved on
  others_by : (next : Next) (after : Desk) →
      after.work.computers.channels ≡ (move_on next.computer next.channel next.given before).work.computers.channels → KeepsBut caller.computer after.work.computers computers
  others_by next after is other apart =
      let own : caller.computer ≡ next.computer = let both : Some caller.computer ≡ Some next.computer = next.named in cc in
      let moved : SecureChannelState = channel_by (passes_on next.channel next.given) next.channel next.given in
      let differs : same_name next.computer other ≡ false = subst (λ (computer : List ℕ). same_name computer other ≡ false) own apart in
      ap (lookup same_name other) is
      ∙ put_others same_name next.computer other moved (take_out same_name next.computer computers.channels) IsSameness-same_name differs
      ∙ taken_others same_name next.computer other computers.channels IsSameness-same_name differs

  -- what it comes to where its authenticator passes, by the place of the account
  abbrev DoneAt : Next → Option ℕ → Desk → Type 0
  DoneAt next found after =
      IsDoneAs (asked.Set caller.account caller.kind (hide_of (key_of_channel o) new)) line (key_of_channel next.channel)
      (return_of (key_of_channel next.channel) next.channel.seed next.given.timestamp)
      (set_so found (show_of (key_of_channel next.channel) (hide_of (key_of_channel o) new)) table computers.sessions)
      (move_on next.computer next.channel next.given before) after

  -- the reply with status 0
  abbrev returned_by : (key seed : List ℕ) → ℕ → SetReply
  returned_by key seed stamp = record { returned = record { credential = return_of key seed stamp; timestamp = 0 }; status = 0 }

  -- the reply takes the secret, where both ends were in step
  taken_by : (next : Next) (c : SecureChannelState) → lookup same_name caller.computer computers.channels ≡ Some c → IsInStep o c →
      returned_by (key_of_channel next.channel) next.channel.seed next.given.timestamp ≡ set_taken o timestamp
  taken_by next c there step =
      let same : c ≡ next.channel = one_channel caller.computer next.computer c next.channel computers next.named there next.stands in
      let given : call.authenticator ≡ next.given = one_given call.authenticator next.given next.there in
      ap (λ (channel : SecureChannelState). returned_by (key_of_channel channel) channel.seed next.given.timestamp) (sym same)
      ∙ ap₂ (λ (key seed : List ℕ). returned_by key seed next.given.timestamp) step.key step.seed
      ∙ ap (λ (one : Authenticator). returned_by (key_of_channel o) o.seed one.timestamp) (sym given)

  passed_told : (next : Next) (after : Desk) (found : Option ℕ) → machine_in table.accounts caller.account caller.kind caller.computer ≡ found → DoneAt next found after → IsSet after →
      ToldSet table name computers link now number timestamp caller o new left
  passed_told next after None none done steps = record {
    later = after.work.computers;
    others = others_by next after done.channels;
    accounts = after.table;
    sets = inl done.table;
    ranged = subst InRangeTable (sym done.table) ranged;
    how = judged.Passed no_trust_sam_account;
    answer = record { returned = record { credential = return_of (key_of_channel next.channel) next.channel.seed next.given.timestamp; timestamp = 0 }; status = no_trust_sam_account };
    is = record { returned = record { credential = cred_block _ _; timestamp = omega arith }; status = omega arith };
    first = [];
    keeps = inl refl;
    taken = λ c there step some. absurd (some refl);
    steps = told_by after _ steps done.actions;
  }
  passed_told next after (Some place) there done steps =
      let hash : List ℕ = show_of (key_of_channel next.channel) (hide_of (key_of_channel o) new) in
      let set : AccountTable = with_hash place hash table in
      record {
        later = after.work.computers;
        others = others_by next after done.channels;
        accounts = after.table;
        sets = inr (record { place = place; hash = hash; found = there; is = done.table });
        ranged = subst InRangeTable (sym done.table) (hash_table place hash table ranged);
        how = judged.Passed 0;
        answer = record { returned = record { credential = return_of (key_of_channel next.channel) next.channel.seed next.given.timestamp; timestamp = 0 }; status = 0 };
        is = record { returned = record { credential = cred_block _ _; timestamp = omega arith }; status = omega arith };
        first = action.Keep (secrets_of set.accounts) ∷ [];
        keeps = inr (secrets_of set.accounts, refl);
        taken = λ c there step some. taken_by next c there step;
        steps = told_by after _ steps done.actions;
      }

  set_told : (after : Desk) → JudgedComes (Set call) name now line before after → IsSet after → ToldSet table name computers link now number timestamp caller o new left
  set_told after (Refused how away) steps = record {
    later = after.work.computers;
    others = λ other apart. channels_left (Set call) computers how after.work.computers.channels other away.why;
    accounts = after.table;
    sets = inl away.table;
    ranged = subst InRangeTable (sym away.table) ranged;
    how = how;
    answer = record { returned = record { credential = replicate 8 0; timestamp = 0 }; status = access_denied };
    is = record { returned = record { credential = zeros_block; timestamp = omega arith }; status = omega arith };
    first = [];
    keeps = inl refl;
    taken = λ c there step some. absurd (some refl);
    steps = told_by after _ steps away.actions;
  }
  set_told after (Passes next done) steps = passed_told next after (machine_in table.accounts caller.account caller.kind caller.computer) refl done steps

pub controllers_answer_sets : ControllersAnswerSets
controllers_answer_sets = record {
  set = λ table name computers link now number timestamp caller o new left below is ranged.
      let c : SetCall = change_call caller o timestamp new in
      let line_so : Line = record { link = link; call = number; context = 0; limit = 5840 } in
      let first : Desk = first_desk table (running computers (turn_link link)) in
      set_told table name computers link now number timestamp caller o new left ranged (answer_judged (Set c) name now line_so first) (judged_comes (Set c) name now line_so first)
      (set_asked table name computers link now number c left below is);
}
