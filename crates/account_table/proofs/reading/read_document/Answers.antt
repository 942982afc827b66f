use Rattle.std.proofs.Common.{inr, sym, ◌∙◌}
use Rattle.std.proofs.lemmas.Bool.{true≢false}
use Rattle.account_table.proofs.DocumentLaws.{document_of-Some, document_of-None, document_of-bytes}
use Rattle.account_table.proofs.reading.read_document.Goals as goal

pub returns-in_default : goal.returns-in_default
returns-in_default c = inr (document_of-bytes c.args.text.now c.in_default.ensures.cases.0)

pub returns-in-Ok-table_from_str : goal.returns-in-Ok-table_from_str
returns-in-Ok-table_from_str c = document_of-Some c.args.text.now _ c.in-Ok.ensures.cases.1 (rw (← c.in-Ok.ensures.cases.0) c.in-Ok-table_from_str.ensures.ok)

pub returns-else-is_memory : goal.returns-else-is_memory
returns-else-is_memory c = inr (document_of-None c.args.text.now c.in-Ok.ensures.cases.1 (rw (← c.in-Ok.ensures.cases.0) (c.in-Err.ensures.refused (λ memory. true≢false (sym (c.is_memory.ensures.1 memory) ∙ c.if-is_memory.false)))))
