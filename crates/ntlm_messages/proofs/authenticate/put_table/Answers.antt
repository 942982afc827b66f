use Rattle.std.proofs.Common.{append_assoc}
use Rattle.ntlm_messages.specs.Authenticate.{authenticate_table}
use Rattle.ntlm_messages.proofs.authenticate.put_table.Goals as goal

pub returns-clause-table : goal.returns-clause-table
unfolding authenticate_table
returns-clause-table c =
    rw (
      c.in_ok-put_field-6.ensures,
      c.in_ok-put_field-5.ensures,
      c.in_ok-put_field-4.ensures,
      c.in_ok-put_field-3.ensures,
      c.in_ok-put_field-2.ensures,
      c.in_ok-put_field.ensures,
      c.bytes.ensures,
      c.bytes-2.ensures,
      c.bytes-3.ensures,
      c.bytes-4.ensures,
      c.bytes-5.ensures,
      c.bytes-6.ensures,
      c.bytes-7.ensures,
      c.bytes-8.ensures,
      c.bytes-9.ensures,
      c.bytes-10.ensures,
      c.bytes-11.ensures,
      c.count_of.ensures.value,
      c.count_of-2.ensures.value,
    ) (simp append_assoc)
