-- The night of the witness: of any five pages a pool is made, a page is mapped and unmapped; a shootdown tells its addresses, and the ticket is
-- reported.
use Rattle.std.specs.Prelude.{ℕ, ◌<◌, Bool, List, [], ◌∷◌}
use Rattle.word.specs.Memory.{memory, holds, at}
use Rattle.word.specs.Writes.{Write}
use Rattle.world.specs.Events.{write}
use Rattle.pool.specs.Book.{book_of, ticket_of}
use Rattle.pool.specs.declared.Space.{Space}
use Rattle.tablepath.specs.Calls.{Call, call_writes, Act}
use Rattle.tablepath.specs.Calls as calls
use Rattle.tablepath.specs.Nights.{Night, last_began, code_sees}
use Rattle.tablepath.specs.Nights as night
use Rattle.tablepath.specs.Witness.{five, page, bytes}

-- A call whose writes reach memory at once ------------------------------------------------------------------------------------------------

-- the writes reach memory, one after the other
unfoldable pub arrive : Night → List Write → Night
arrive N [] = N
arrive N (w ∷ ws) = arrive (night.happens N (write (at w.page w.index) w.word)) ws

module _ (h : ℕ → Bool) (sp : Space) where
  unfoldable pub act : Night → Call → Act
  act N c = record { call = c; saw = code_sees h sp N }

  unfoldable pub calm : Night → Call → Night
  calm N c = arrive (night.calls N (act N c)) (call_writes h (code_sees h sp N) sp c)

-- Five pages -----------------------------------------------------------------------------------------------------------------------------------

module _ (s : List ℕ) where
  abbrev pub window : ℕ → Bool
  window = holds (bytes s) 0

  abbrev pub contents : ℕ → ℕ
  contents = memory (bytes s) 0

  -- a page is mapped and unmapped; a shootdown of its addresses begins, and is done; the ticket is reported
  abbrev pub mapped : Night
  mapped = calm window five (night.dusk contents) (calls.map page)

  abbrev pub gone : Night
  gone = calm window five mapped (calls.unmap 0)

  abbrev pub shot : Night
  shot = night.done (night.begins gone) (λ va. va < 4096)

  abbrev pub reported : Night
  reported = calm window five shot (calls.told (ticket_of (book_of (last_began shot) five)))
