-- A STEP OF A WALK IS WHAT tp_raw_entry SAYS of its entry, for any bytes: so whoever goes by it from the root down finds what look-up finds.
use Prim.Native.Nat.{ℕ, ◌*◌, ◌^◌, ◌<◌}
use mathlib.Core.Bool.{Bool, true, false, cond}
use mathlib.Core.List.{List}
use mathlib.Core.Path.{◌≡◌, refl, ◌∙◌}
use native.Mathlib.Omega.{arith}
use borrow.Author.Tests.{lt-ltb}
use Rattle.std.proofs.Common.{Option, Some, None}
use Rattle.word.specs.Memory.{memory, holds, read_of}
use Rattle.entry.specs.Entry.{bit, table_of, says}
use Rattle.entry.specs.Words.{flag}
use Rattle.entry.specs.declared.Rights.{Rights}
use Rattle.entry.specs.declared.Entry.{Entry}
use Rattle.entry.specs.declared.Entry.TheVariants.{Nothing, Page, Table}
use Rattle.entry.proofs.Fields.{table_small}
use Rattle.walk.specs.Walk.{index_of, entered, step_of}
use Rattle.walk.specs.declared.Found.TheVariants as found
use Rattle.walk.specs.declared.Place.TheVariants.{Going, Ended}
use Rattle.walk.proofs.Steps.{step_read, step_outside}
use Rattle.abi.specs.Answers.{rights_word, rights_in}
use Rattle.abi.specs.Entries.{bare_of, silent_of, said_of, said_in, entry_answer}
use Rattle.abi.specs.Walked.{goes_by}

-- rights that were told as a number are the same rights
pub rights_told : (r : Rights) → rights_in (rights_word r) ≡ r
unfolding rights_in rights_word flag
rights_told r = go r.writable r.user r.noexec
  where
    of : Bool → Bool → Bool → Rights
    of a b c = record { writable = a; user = b; noexec = c }

    go : (a b c : Bool) → rights_in (rights_word (of a b c)) ≡ of a b c
    go true true true = refl
    go true true false = refl
    go true false true = refl
    go true false false = refl
    go false true true = refl
    go false true false = refl
    go false false true = refl
    go false false false = refl

-- a page whose address was told is the same page
page_told : (t : ℕ) → t < 2 ^ 40 → table_of (4096 * t) ≡ t
unfolding table_of
page_told t h = omega arith

-- what comes of a word is what comes of the answer
said_goes : (n va w : ℕ) (r : Rights) → entered n va r (says n w) ≡ goes_by n va r (said_of w (says n w))
unfolding entered goes_by said_of silent_of bare_of
said_goes n va w r = go (says n w) refl
  where
    silent : (b : Bool) → Ended found.Nothing ≡ goes_by n va r (bare_of (cond b 4 0))
    silent true = refl
    silent false = refl

    go : (e : Entry) → says n w ≡ e → entered n va r e ≡ goes_by n va r (said_of w e)
    go Nothing h = silent (bit 0 w)
    go (Page f g) h = rw (rights_told g)
    go (Table t g) h = rw (rights_told g, page_told t (table_small n w t g h))

-- THE STEP, at a table whose address is given as in CR3
pub entry_walked : (s : List ℕ) (origin table n va : ℕ) (r : Rights) → n < 4
    → step_of (holds s origin) (memory s origin) n va (Going (table_of table) r) ≡ goes_by n va r (entry_answer s origin table n (index_of n va))
unfolding entry_answer said_in goes_by bare_of
entry_walked s origin table n va r h = rw (lt-ltb n 4 h) (go (read_of s origin (table_of table) (index_of n va)) refl)
  where
    go : (c : Option ℕ) → read_of s origin (table_of table) (index_of n va) ≡ c
        → step_of (holds s origin) (memory s origin) n va (Going (table_of table) r) ≡ goes_by n va r (said_in n c)
    go (Some w) e = step_read s origin n va (table_of table) r (index_of n va) refl w e ∙ said_goes n va w r
    go None e = step_outside s origin n va (table_of table) r (index_of n va) refl e
