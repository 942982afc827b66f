-- A logon that fits is asked in one whole unit. It serves `what_fits_is_heard_whole`.
use Rattle.std.proofs.Common.{◌≡◌, ◌<◌, ◌≤◌, ◌^◌, ℕ, true, length, nat_le, arith}
use Rattle.std.proofs.lemmas.Bool.Decides.{nat_tests}
use Rattle.authenticators.proofs.BlockLaws.{cred_block, zeros_block}
use Rattle.authenticators.specs.SecureChannels.{SecureChannelState}
use Rattle.logon_stubs.proofs.GivenLaws.{call_of-InRange}
use Rattle.logon_stubs.proofs.WrittenLaws.{AreBytes-written_call, written_call-content}
use Rattle.logon_stubs.specs.Ranges.{InRangeCall, InRangeNetworkInfo}
use Rattle.logon_stubs.specs.Writing.{CanWriteCall, written_call}
use Rattle.logon_stubs.specs.declared.info.NetworkInfo.{NetworkInfo}
use Rattle.end_links.proofs.WholeLaws.{request_whole}
use Rattle.channel_client.specs.Machine.{logon_call}
use Rattle.channel_client.specs.Whole.{InRangeCaller, InRangeLogon}
use Rattle.channel_client.specs.declared.caller.Caller.{Caller}
use Rattle.domain_controller.specs.Forwarding.{fits_on, logon_bytes, logon_limit}
use Rattle.domain_controller.specs.TrustWhole.{WhatFitsIsWhole}
use Rattle.end_links.specs.Whole.{whole_limit}

few_bytes : (count : ℕ) → nat_le count logon_limit ≡ true → count ≤ logon_limit
few_bytes count is = grind (arith, nat_tests)

pub logon_fits : (info : NetworkInfo) → fits_on info ≡ true → InRangeNetworkInfo info → InRangeLogon info
logon_fits info fits range =
    let few = few_bytes (logon_bytes info) fits in
    record {
      writes = record { domain = omega (arith, few); user = omega (arith, few); workstation = omega (arith, few); nt = omega (arith, few); lm = omega (arith, few) };
      range = range;
      few = omega (arith, few);
    }

module _ (caller : Caller) (channel : SecureChannelState) (timestamp : ℕ) (info : NetworkInfo) (has : InRangeCaller caller) (below : timestamp < 2 ^ 32) (is : InRangeLogon info) where
  writes : CanWriteCall (logon_call caller channel timestamp info)
  writes = record { server = tt; computer = omega (arith, has.computer); info = is.writes }

  range_of : InRangeCall (logon_call caller channel timestamp info)
  range_of = record {
    front = record {
      server = tt;
      computer = has.computer_units;
      authenticator = record { credential = cred_block _ _; timestamp = below };
      returned = record { credential = zeros_block; timestamp = omega arith };
      info = is.range;
    };
    validation = omega arith;
  }

  short : length (written_call (logon_call caller channel timestamp info)) ≤ whole_limit
  short =
      let content = written_call-content (logon_call caller channel timestamp info) writes range_of in
      omega (arith, content, has.computer, is.few)

pub what_fits : WhatFitsIsWhole
what_fits = record {
  waits = logon_fits;
  request = λ number limit caller channel timestamp info small least most has below fits range.
      let is : InRangeLogon info = logon_fits info fits range in
      request_whole number 0 _ limit (written_call (logon_call caller channel timestamp info)) small (omega arith) (omega arith) least most
      (short caller channel timestamp info has below is)
      (AreBytes-written_call (logon_call caller channel timestamp info) (writes caller channel timestamp info has below is) (range_of caller channel timestamp info has below is));
  read = λ opnum stub c are is. (call_of-InRange opnum stub _ are is).front.info;
}
