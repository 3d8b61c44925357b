-- The ticket of a book that can be.
use Rattle.std.proofs.Common.{◌≡◌, ℕ, ◌+◌, ◌≤◌, arith}
use Rattle.pool.specs.declared.Book.{Book}
use Rattle.pool.specs.Book.{AddsUp, ticket_of, ticket_in, ticket_after}

-- THE TICKET of a book that can be is a number of 64 bits as it is
pub ticket_sound : (pages : ℕ) (b : Book) → AddsUp pages b → ticket_in b ≡ ticket_of b
unfolding ticket_in
ticket_sound pages b s = omega (arith, s.early, s.small, s.room)

-- and n more are n more
pub ticket_more : (pages : ℕ) (b : Book) (n : ℕ) → AddsUp pages b → n ≤ pages → ticket_after b n ≡ ticket_of b + n
unfolding ticket_after
ticket_more pages b n s u = rw (ticket_sound pages b s) (omega (arith, s.early, s.small, s.room))
