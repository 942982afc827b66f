-- The exit where words, files or the bytes of a word were refused (this project's own choice): want of memory stays
-- want of memory.
use Rattle.std.specs.Prelude.{ℕ}
use Rattle.ntlm_messages.specs.declared.pairs.PairsRefused.{PairsRefused}
use Rattle.ntlm_messages.specs.declared.pairs.PairsRefused.TheVariants as pairs
use Rattle.ntlm_messages.specs.declared.refused.MessageRefused.{MessageRefused}
use Rattle.ntlm_messages.specs.declared.refused.MessageRefused.TheVariants as messages
use Rattle.nt_words.specs.declared.files.FilesRefused.{FilesRefused}
use Rattle.nt_words.specs.declared.files.FilesRefused.TheVariants as files
use Rattle.nt_words.specs.declared.options.WordsRefused.{WordsRefused}
use Rattle.nt_words.specs.declared.options.WordsRefused.TheVariants as words
use Rattle.nt_top.specs.declared.exit.Exit.{Exit}
use Rattle.nt_top.specs.declared.exit.Exit.TheVariants.{BadWords, FileFault, BadTable, BadInput, NoMemory}

abbrev pub message_exit : MessageRefused → ℕ → Exit
message_exit messages.Memory number = NoMemory
message_exit _ number = BadInput number

abbrev pub pairs_exit : PairsRefused → ℕ → Exit
pairs_exit pairs.Memory number = NoMemory
pairs_exit _ number = BadInput number

abbrev pub words_exit : WordsRefused → Exit
words_exit (words.BadWords number) = BadWords number
words_exit words.Memory = NoMemory

abbrev pub files_exit : FilesRefused → Exit
files_exit files.FileFault = FileFault
files_exit (files.BadTable cause) = BadTable cause
files_exit (files.BadInput number) = BadInput number
files_exit files.NoMemory = NoMemory
