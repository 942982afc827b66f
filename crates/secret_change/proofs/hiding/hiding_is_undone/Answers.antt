-- The laws on both halves under DES (`proofs/HideLaws`).
use Rattle.secret_change.proofs.HideLaws.{hidden_is_shown, shown_is_hidden, hidden_is_secret, shown_is_secret}
use Rattle.secret_change.proofs.hiding.hiding_is_undone.Goals as goal

pub returns-clause-shown : goal.returns-clause-shown
returns-clause-shown c = hidden_is_shown

pub returns-clause-hidden : goal.returns-clause-hidden
returns-clause-hidden c = shown_is_hidden

pub returns-clause-hidden_secret : goal.returns-clause-hidden_secret
returns-clause-hidden_secret c = hidden_is_secret

pub returns-clause-shown_secret : goal.returns-clause-shown_secret
returns-clause-shown_secret c = shown_is_secret
