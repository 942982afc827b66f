-- That the calls of a member's turns and the replies to them can be written, joined and read, and that a hidden key is
-- shown again.
-- Of `calls_can_go`.
use Rattle.std.proofs.Common.{◌≡◌, ℕ, Bool, true, false, List, [], ◌∷◌, ◌++◌, length, replicate, refl, sym, ap, subst, ◌∙◌, arith, length-append, inl, inr}
use Rattle.std.specs.Prelude.{All}
use Rattle.std.proofs.lemmas.Bool.{cases_Bool, cases_lt}
use Rattle.std.proofs.lemmas.List.{get_or_past}
use Rattle.std.proofs.lemmas.List.Elements.{All-append, All-from_recursion, All-get_or}
use Rattle.std.proofs.lemmas.Slice.Eq.{bytes_eq-Decides}
use Rattle.rc4_stream.specs.Rc4.{applied}
use Rattle.rc4_stream.proofs.Rc4Laws.{All-applied, applied-applied, length-applied}
use Rattle.wire_base.specs.Names.{IsNameByte}
use Rattle.wire_base.specs.Units.{AreUnits}
use Rattle.wire_base.proofs.NumberLaws.{all_from_bytes, bytes_from_all}
use Rattle.channel_keys.specs.Hidden.{crypt_by, crypt_key, is_zero}
use Rattle.authenticators.specs.SecureChannels.{SecureChannelState, key_of_channel}
use Rattle.authenticators.proofs.BlockLaws.{cred_block, zeros_block}
use Rattle.account_table.specs.AccountTable.{AccountTable}
use Rattle.account_table.specs.declared.account.Account.{Account}
use Rattle.sam_logon.specs.Granting.{sam_info_of}
use Rattle.sam_logon.proofs.GrantedLaws.{sam_info-CanWrite, sam_info-InRange, sam_info-IsShort}
use Rattle.logon_stubs.specs.declared.calls.Reply.{Reply}
use Rattle.logon_stubs.specs.declared.calls.Reply.TheVariants as reply
use Rattle.logon_stubs.specs.declared.info.SamInfo.{SamInfo}
use Rattle.logon_stubs.specs.Ranges.{HasShortTexts, InRangeReply, InRangeSamInfo, IsBlock}
use Rattle.logon_stubs.specs.Writing.{CanWriteReply, CanWriteSamInfo}
use Rattle.logon_stubs.proofs.WrittenLaws.{written_reply-few}
use Rattle.channel_client.specs.Machine.{offered_flags, server_credential}
use Rattle.channel_client.specs.declared.state.Question.TheVariants as question
use Rattle.logon_steps.specs.Calling.{CallsCanGo}
use Rattle.logon_steps.specs.MemberAnswers.{granting}
use Rattle.logon_steps.specs.Turning.{IsTurnReply}

pub are_units : (bytes : List ℕ) → All IsNameByte bytes → AreUnits bytes
are_units bytes all place =
    elim (cases_lt place (length bytes)) [
      | inl within ↦ omega (arith, (All-get_or IsNameByte bytes place 0 within all).1)
      | inr past ↦ rw (get_or_past bytes place 0 past) (omega arith)
    ]

-- ---- the reply that grants

pub hidden_block : (none : Bool) (session key : List ℕ) → IsBlock 16 key → IsBlock 16 (crypt_by none session key)
hidden_block true session key is = is
hidden_block false session key is = (
  length-applied session 0 key ∙ is.0,
  bytes_from_all (applied session 0 key) (All-applied session 0 key (all_from_bytes key is.1)),
)

-- what is granted with the key hidden
hidden_so : (table : AccountTable) (name : List ℕ) (account : Account) (key hidden : List ℕ) (now : ℕ) →
    sam_info_of table name account hidden now ≡ record (sam_info_of table name account key now) { key = hidden }
unfolding sam_info_of
hidden_so table name account key hidden now = refl

granting_goes : (o : SecureChannelState) (timestamp : ℕ) (info : SamInfo) → CanWriteSamInfo info → HasShortTexts info → InRangeSamInfo info → IsTurnReply question.Logon (granting o timestamp 0 1 info)
granting_goes o timestamp info can few is =
    let writes : CanWriteReply (granting o timestamp 0 1 info) = (inr refl, can) in
    let range : InRangeReply (granting o timestamp 0 1 info) = record {
      returned = record { credential = cred_block _ _; timestamp = omega arith };
      level = omega arith;
      info = is;
      authoritative = omega arith;
      status = omega arith;
    } in
    record {
      opnum = refl;
      writes = writes;
      range = range;
      short = omega (arith, written_reply-few (granting o timestamp 0 1 info) writes range few);
    }

pub calls_can_go : CallsCanGo
calls_can_go = record {
  caller = λ plan is. record {
    computer = is.0;
    computer_units = are_units plan.computer is.1;
    account = omega (arith, is.0, length-append plan.computer (0x24 ∷ []));
    account_units = are_units (plan.computer ++ 0x24 ∷ []) (All-append IsNameByte plan.computer (0x24 ∷ []) is.1
        (All-from_recursion IsNameByte (0x24 ∷ []) ((omega arith, omega arith), tt)));
    kind = omega arith;
  };
  challenge = λ caller client has eight. record {
    served = refl;
    writes = (tt, omega (arith, has.computer));
    range = record { primary = tt; computer = has.computer_units; challenge = eight };
    short = omega (arith, has.computer);
  };
  authenticate = λ caller client server has. record {
    served = refl;
    writes = (tt, omega (arith, has.account), omega (arith, has.computer));
    range = record {
      primary = tt;
      account = has.account_units;
      channel = has.kind;
      computer = has.computer_units;
      credential = cred_block _ _;
      flags = omega arith;
    };
    short = omega (arith, has.computer, has.account);
  };
  logon = λ caller o timestamp info has below fits. record {
    served = refl;
    writes = record {
      server = tt;
      computer = omega (arith, has.computer);
      info = record {
        domain = omega (arith, fits.domain);
        user = omega (arith, fits.user);
        workstation = omega (arith, fits.workstation);
        nt = omega (arith, fits.nt);
        lm = omega (arith, fits.lm);
      };
    };
    range = record {
      front = record {
        server = tt;
        computer = has.computer_units;
        authenticator = record { credential = cred_block _ _; timestamp = below };
        returned = record { credential = zeros_block; timestamp = omega arith };
        info = fits.range;
      };
      validation = omega arith;
    };
    short = omega (arith, has.computer, fits.domain, fits.user, fits.workstation, fits.nt, fits.lm);
  };
  challenged = λ client server eight.
      let r : Reply = reply.Challenge (record { challenge = server; status = 0 }) in
      let range : InRangeReply r = record { challenge = eight; status = omega arith } in
      record { opnum = refl; writes = tt; range = range; short = omega (arith, written_reply-few r tt range tt) };
  proved = λ secret client server.
      let r : Reply = reply.Authenticate (record { credential = server_credential secret client server; flags = offered_flags; status = 0 }) in
      let range : InRangeReply r = record { credential = cred_block _ _; flags = omega arith; status = omega arith } in
      record { opnum = refl; writes = tt; range = range; short = omega (arith, written_reply-few r tt range tt) };
  granted = λ o timestamp table name account key now domain sid server of sixteen below.
      let hidden : List ℕ = crypt_key (key_of_channel o) key in
      let block : IsBlock 16 hidden = hidden_block (is_zero key) (key_of_channel o) key sixteen in
      subst (λ (info : SamInfo). IsTurnReply question.Logon (granting o timestamp 0 1 info)) (hidden_so table name account key hidden now)
      (granting_goes o timestamp (sam_info_of table name account hidden now)
      (sam_info-CanWrite table name account hidden now domain server of)
      (sam_info-IsShort table name account hidden now domain server of)
      (sam_info-InRange table name account hidden now domain server of sid block below));
  shown = λ key base other.
      elim (cases_Bool (is_zero base)) [
        | inl none ↦
            ap (λ (b : Bool). crypt_by (is_zero (crypt_by b key base)) key (crypt_by b key base)) none
            ∙ ap (λ (b : Bool). crypt_by b key base) none
        | inr some ↦
            ap (λ (b : Bool). crypt_by (is_zero (crypt_by b key base)) key (crypt_by b key base)) some
            ∙ elim (cases_Bool (is_zero (applied key 0 base))) [
              | inl hidden ↦ absurd (other (sym (applied-applied key 0 base)
                  ∙ ap (λ (h : List ℕ). applied key 0 h) ((bytes_eq-Decides (applied key 0 base) (replicate 16 0)).0 hidden)))
              | inr seen ↦ ap (λ (b : Bool). crypt_by b key (applied key 0 base)) seen ∙ applied-applied key 0 base
            ]
      ];
}
