-- One logon on a secure channel, at the end that asks: it is let wait while no other does, and
-- turns follow one another until it is answered (MS-NRPC 3.1.4.1 to 3.1.4.5).
use Rattle.std.specs.Prelude.{ℕ, ◌≡◌, ◌&&◌, true, false, ◌==◌, List, [], ◌∷◌, Option, Some, None, Ok}
use Rattle.ntlm_flags.specs.Flags.{has_flag}
use Rattle.channel_keys.specs.Flags.{rc4_flag}
use Rattle.authenticators.specs.Sequences.{return_of}
use Rattle.rpc_units.specs.Writing.{written}
use Rattle.logon_stubs.specs.Status.{access_denied}
use Rattle.logon_stubs.specs.declared.info.NetworkInfo.{NetworkInfo}
use Rattle.logon_stubs.specs.declared.info.SamInfo.{SamInfo}
use Rattle.logon_stubs.specs.declared.info.Verdict.TheVariants as verdict
use Rattle.logon_stubs.specs.declared.calls.Reply.TheVariants as reply
use Rattle.end_links.specs.Binding.{bind_of}
use Rattle.channel_keys.specs.Hidden.{crypt_key}
use Rattle.authenticators.specs.SecureChannels.{SecureChannelState, after_call, after_return, fresh_channel, key_of_channel}
use Rattle.logon_stubs.specs.Interface.{netlogon_syntax}
use Rattle.channel_client.specs.State.{Requester}
use Rattle.channel_client.specs.Machine.{after, ask_of, auth_call, challenge_call, judge, level_asked, logon_call, offered_flags, server_credential, settle, start_of}
use Rattle.channel_client.specs.declared.answers.Taken.TheVariants as taken
use Rattle.channel_client.specs.declared.caller.Caller.{Caller}
use Rattle.channel_client.specs.declared.state.Pending.{Pending}
use Rattle.channel_client.specs.declared.state.Question.TheVariants as question
use Rattle.channel_client.specs.declared.state.Standing.{Standing}
use Rattle.channel_client.specs.declared.state.Standing.TheVariants as standing
use Rattle.channel_client.specs.declared.state.Step.TheVariants as step

-- ---- what is kept

-- nobody waits; the next place, and the next number
abbrev pub at_rest : Caller → Standing → ℕ → ℕ → Requester
at_rest caller how place number = record { caller = caller; standing = how; waiting = []; next_place = place; next_call = number; turn = None; next = None; sealing = None }

-- what is asked for a place
abbrev pub info_at : ℕ → NetworkInfo → NetworkInfo
info_at place info = record info { logon_id = place }

-- the logon of that place waits, and no other; the next number, and the turn that is out
abbrev pub asking : Caller → Standing → NetworkInfo → ℕ → ℕ → Option Pending → Requester
asking caller how info place number turn = record {
  caller = caller;
  standing = how;
  waiting = record { place = place; info = info_at place info } ∷ [];
  next_place = after place;
  next_call = number;
  turn = turn;
  next = None;
  sealing = None;
}

-- who asks on a channel that has that next secret, or none: while it has one, it is set first
abbrev pub asking_keeping : Caller → Standing → NetworkInfo → ℕ → ℕ → Option Pending → Option (List ℕ) → Requester
asking_keeping caller how info place number turn next = record (asking caller how info place number turn) { next = next }

abbrev pub at_rest_keeping : Caller → Standing → ℕ → ℕ → Option (List ℕ) → Requester
at_rest_keeping caller how place number next = record (at_rest caller how place number) { next = next }

-- ---- what it comes to

pub record LogonsAreAsked : Type 0 where
  -- a logon that is asked waits
  pub waits : (caller : Caller) (how : Standing) (info : NetworkInfo) (place number : ℕ) →
      ask_of (at_rest caller how place number) info ≡ record { answer = Ok place; state = asking caller how info place number None }
  -- a turn starts by what the channel needs: the two calls that open it, or the logon's own
  pub opens : (caller : Caller) (info : NetworkInfo) (place number timestamp : ℕ) (challenge : List ℕ) →
      start_of (asking caller standing.Nothing info place number None) timestamp challenge ≡ record {
        answer = Some (tt, written (bind_of netlogon_syntax number) ∷ []);
        state = asking caller standing.Nothing info place (after number)
            (Some (record { number = number; place = place; step = step.Bind (challenge_call caller challenge) }));
      }
  pub proves : (caller : Caller) (client server : List ℕ) (info : NetworkInfo) (place number timestamp : ℕ) (challenge : List ℕ) →
      start_of (asking caller (standing.Half client server) info place number None) timestamp challenge ≡ record {
        answer = Some (tt, written (bind_of netlogon_syntax number) ∷ []);
        state = asking caller (standing.Half client server) info place (after number)
            (Some (record { number = number; place = place; step = step.Bind (auth_call caller client server) }));
      }
  pub asks : (caller : Caller) (o : SecureChannelState) (info : NetworkInfo) (place number timestamp : ℕ) (challenge : List ℕ) →
      start_of (asking caller (standing.Open o) info place number None) timestamp challenge ≡ record {
        answer = Some (tt, written (bind_of netlogon_syntax number) ∷ []);
        state = asking caller (standing.Open (after_call o timestamp)) info place (after number)
            (Some (record { number = number; place = place; step = step.Bind (logon_call caller o timestamp (info_at place info)) }));
      }
  -- the replies of a controller that has the computer's secret, whichever is next: both challenges are known then
  pub half : (caller : Caller) (info : NetworkInfo) (place number other : ℕ) (client server : List ℕ) (next : Option (List ℕ)) →
      settle (judge (question.Challenge client) (reply.Challenge (record { challenge = server; status = 0 })) standing.Nothing caller.secret)
      (asking_keeping caller standing.Nothing info place number (Some (record { number = other; place = place; step = step.Reply (question.Challenge client) })) next)
      ≡ record { taken = taken.Half; state = asking_keeping caller (standing.Half client server) info place number None next }
  -- the channel stands
  pub opened : (caller : Caller) (info : NetworkInfo) (place number other flags : ℕ) (client server : List ℕ) (next : Option (List ℕ)) →
      (has_flag offered_flags flags && has_flag flags rc4_flag) ≡ true →
      settle (judge question.Authenticate (reply.Authenticate (record {
        credential = server_credential caller.secret client server;
        flags = flags;
        status = 0;
      })) (standing.Half client server) caller.secret)
      (asking_keeping caller (standing.Half client server) info place number (Some (record { number = other; place = place; step = step.Reply question.Authenticate })) next)
      ≡ record { taken = taken.Opened; state = asking_keeping caller (standing.Open (fresh_channel caller.secret client server offered_flags)) info place number None next }
  -- the logon is granted, or refused with another status than ACCESS_DENIED
  pub granted : (caller : Caller) (o : SecureChannelState) (info : NetworkInfo) (sam : SamInfo) (place number other timestamp moment authoritative : ℕ) (next : Option (List ℕ)) →
      settle (judge question.Logon (reply.Logon (record {
        returned = Some (record { credential = return_of (key_of_channel o) o.seed timestamp; timestamp = moment });
        level = level_asked;
        info = Some sam;
        authoritative = authoritative;
        status = 0;
      })) (standing.Open (after_call o timestamp)) caller.secret)
      (asking_keeping caller (standing.Open (after_call o timestamp)) info place number (Some (record { number = other; place = place; step = step.Reply question.Logon })) next)
      ≡ record {
        taken = taken.Answer place (verdict.Granted (record sam { key = crypt_key (key_of_channel o) sam.key }));
        state = at_rest_keeping caller (standing.Open (after_return true (after_call o timestamp))) (after place) number next;
      }
  pub refused : (caller : Caller) (o : SecureChannelState) (info : NetworkInfo) (sam : Option SamInfo) (place number other timestamp moment level authoritative status : ℕ)
      (next : Option (List ℕ)) →
      (status == access_denied) ≡ false → (status == 0) ≡ false →
      settle (judge question.Logon (reply.Logon (record {
        returned = Some (record { credential = return_of (key_of_channel o) o.seed timestamp; timestamp = moment });
        level = level;
        info = sam;
        authoritative = authoritative;
        status = status;
      })) (standing.Open (after_call o timestamp)) caller.secret)
      (asking_keeping caller (standing.Open (after_call o timestamp)) info place number (Some (record { number = other; place = place; step = step.Reply question.Logon })) next)
      ≡ record {
        taken = taken.Answer place (verdict.Status status);
        state = at_rest_keeping caller (standing.Open (after_return true (after_call o timestamp))) (after place) number next;
      }
