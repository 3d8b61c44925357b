-- Protect: the decision, and the one write of its plan.
use Rattle.std.specs.Prelude.{ℕ, Bool, cond, List, [], ◌∷◌, Result, Ok, Err}
use Rattle.plan.specs.declared.Reason.{Reason}
use Rattle.word.specs.Writes.{Write, write}
use Rattle.entry.specs.Words.{with_rights}
use Rattle.entry.specs.declared.Rights.{Rights}
use Rattle.walk.specs.Walk.{index_of}
use Rattle.pool.specs.Book.{book_of, ticket_in}
use Rattle.pool.specs.declared.Space.{Space}
use Rattle.plan.specs.declared.Reason.TheVariants.{WriteExecute}
use Rattle.plan.specs.declared.finding.PageEntry.{PageEntry}
use Rattle.plan.specs.declared.protects.Change.{Change}
use Rattle.plan.specs.Find.{find_of}
use Rattle.plan.specs.Rights.{write_execute}

unfoldable pub change_of : ℕ → PageEntry → Rights → ℕ → Change
change_of va s r t = record {
  table = s.way.a;
  index = index_of s.way.level va;
  word = with_rights s.way.word r;
  frame = s.frame;
  size = s.size;
  ticket = t;
}

-- with the ticket of the book as it stands: protect writes nothing to it
unfoldable pub changing_of : (ℕ → ℕ) → Space → ℕ → Rights → Result PageEntry Reason → Result Change Reason
changing_of m sp va r (Ok s) = Ok (change_of va s r (ticket_in (book_of m sp)))
changing_of m sp va r (Err y) = Err y

-- WHAT PROTECT DECIDES: the rights that are asked, then the pool, then whether a page starts there
unfoldable pub decide_of : (ℕ → Bool) → (ℕ → ℕ) → Space → ℕ → Rights → Result Change Reason
decide_of h m sp va r = cond (write_execute r) (Err WriteExecute) (changing_of m sp va r (find_of h m sp va))

-- what it writes
unfoldable pub writes_of : Change → List Write
writes_of c = write c.table c.index c.word ∷ []

unfoldable pub did_of : Result Change Reason → List Write
did_of (Ok c) = writes_of c
did_of (Err y) = []
