-- A page's entry, as we write it: its frame and rights, the machine's marks, and nothing else. So no reserved bit, no other memory type, no
-- global page.
use Rattle.std.specs.Prelude.{◌≡◌, ℕ}
use Rattle.entry.specs.Entry.{says}
use Rattle.entry.specs.Marks.{Marked}
use Rattle.entry.specs.Words.{page_word}
use Rattle.entry.specs.declared.Rights.{Rights}
use Rattle.entry.specs.declared.Entry.TheVariants.{Page}

-- where the word says a page at level n, it is the word that we write for that page, but for the marks
abbrev pub Clean : ℕ → ℕ → Type 0
Clean n w = (f : ℕ) (g : Rights) → says n w ≡ Page f g → Marked w (page_word n f g)
