-- THE THEOREMS OF A NIGHT, as statements. N is an honest night, and complete (exact where that is said, not even complete where "whatever is told" is); the proofs have the same names in small letters.
use Rattle.std.specs.Prelude.{ℕ, ◌<◌, ◌≤◌, Bool, List, [], ◌++◌, ◌⊎◌, ◌≡◌}
use Rattle.word.specs.Memory.{at}
use Rattle.walk.specs.declared.Found.{Found}
use Rattle.walk.specs.declared.Found.TheVariants.{Nothing}
use Rattle.world.specs.Events.{Event, after, Among, All}
use Rattle.world.specs.Walker.{Gives, On}
use Rattle.tables.specs.Walks.{Position}
use Rattle.world.specs.Held.{Can, None}
use Rattle.world.specs.Frozen.{SomeReads}
use Rattle.world.specs.Reports.{next, Caches, Held, Since, Fresh}
use Rattle.tables.specs.Roles.{Role}
use Rattle.tables.specs.Near.{Near}
use Rattle.pool.specs.Book.{book_of, ticket_of}
use Rattle.pool.specs.Booked.{Numbered}
use Rattle.pool.specs.declared.Space.{Space}
use Rattle.plan.specs.declared.maps.Asked.{Asked}
use Rattle.effect.specs.Whole.{Whole}
use Rattle.tablepath.specs.Calls.{means, PoolWord, Remarked, Act, UpTo}
use Rattle.tablepath.specs.Tickets.{Handed}
use Rattle.tablepath.specs.Nights.{Night, done, history, present, last_began, last_since, covered, uncovered, Some, IsPage, IsHalf, but_rights, untold_kept, upper_dropped, walks, waiting, code_sees, Unmaps, Hit, Hits, Gets, MayRead, Given, Onward}
use Rattle.tablepath.specs.Gone.{dawn, Avoids, MappedAt, Maps, StillMapped, page_of, MappedSince, InBook, Links}

module _ (h : ℕ → Bool) (sp : Space) where
  -- Answers ---------------------------------------------------------------------------------------------------------------------------

  -- EXACT: whatever a walk ends with or a cache gives is what its address meant at some moment since the shootdown began that was done last.
  abbrev pub NightAnswer : Night → Type 0
  NightAnswer N = (va : ℕ) (o : Found) → Gets h sp untold_kept N va o → Among (last_began N) (last_since N) (λ x. means h sp x va ≡ o)

  -- COMPLETE: the same, but for rights.
  abbrev pub NightPage : Night → Type 0
  NightPage N = (va : ℕ) (o : Found) → Gets h sp untold_kept N va o → Among (last_began N) (last_since N) (λ x. but_rights (means h sp x va) ≡ but_rights o)

  -- WHATEVER IS TOLD, where all upper entries are dropped: what va meant at some moment since the shootdown began that was the last to tell va.
  abbrev pub NightFresh : Night → Type 0
  NightFresh N = (va : ℕ) (o : Found) → Gets h sp upper_dropped N va o → Fresh (walks h sp) upper_dropped (history N) va o

  -- A FULL FLUSH: when it is done, nothing is held but what began since it began.
  abbrev pub NightFlushed : Night → Type 1
  NightFlushed N = (T : ℕ → Type 0) → ((va : ℕ) → T va) → (C : Caches Position Found) (va : ℕ) (p : Position) → Held (walks h sp) C (history (done N T)) va p
      → Since (walks h sp) (next (history N)) va p

  -- STORES: whatever page is given, however stale, no word of it is the pool's. So no program's store hits a table or the book.
  abbrev pub StaysOut : Caches Position Found → Night → Type 0
  StaysOut C N = (a : ℕ) → Given h sp C N a → ¬ PoolWord sp a

  -- Reuse --------------------------------------------------------------------------------------------------------------------------------

  -- A FRAME IS GONE, COMPLETE: by the calls that a shootdown covers, every page that met it was unmapped; and none was mapped since. Then no walk and no
  -- cache gives, for any address, a page that meets it.
  abbrev pub FrameGone : Night → Type 0
  FrameGone N = (f s : ℕ) → ((b : ℕ) → ¬ StillMapped h sp f s (MappedAt h sp f s (dawn N)) (covered N) b) → ((b : ℕ) → ¬ Some (Maps h sp f s b) (uncovered N))
      → (va : ℕ) (o : Found) → Gets h sp untold_kept N va o → Avoids f s o

  -- A TABLE IS GONE, COMPLETE: when the last period began the book listed the page as free or set aside, and no call has linked it since. Then no walk,
  -- from whatever cache it goes on, reads a word of it.
  abbrev pub TableGone : Night → Type 0
  TableGone N = (t : ℕ) → InBook sp (last_began N) t → ¬ Some (Links h sp t) (uncovered N) → (va i : ℕ) → i < 512 → ¬ MayRead h sp untold_kept N va (at t i)

  -- WHAT A REPORT RELEASES, COMPLETE: a page that an honest report would release now is read by no walk, from whatever cache it goes on.
  abbrev pub ReleasedUnread : Night → Type 0
  ReleasedUnread N = (p k : ℕ) → Numbered (code_sees h sp N) sp p k → k < ticket_of (book_of (last_began N) sp) → (va i : ℕ) → i < 512 → ¬ MayRead h sp untold_kept N va (at p i)

  -- A TICKET THAT A COVERED CALL HANDED OUT may be reported: it is at most that of the moment at which the shootdown began that was done last.
  abbrev pub CoveredTicket : Night → Type 0
  CoveredTicket N = (t : ℕ) → Some (λ a. Handed h a.saw sp a.call t) (covered N) → t ≤ ticket_of (book_of (last_began N) sp)

  -- ONE THAT AN UNCOVERED CALL HANDED OUT is at least that: so an honest report covers every call that handed out a lower one.
  abbrev pub UncoveredTicket : Night → Type 0
  UncoveredTicket N = (t : ℕ) → Some (λ a. Handed h a.saw sp a.call t) (uncovered N) → ticket_of (book_of (last_began N) sp) ≤ t

  -- A TICKET COVERS EVERY CALL UP TO IT, where it speaks of the last moment at which it was handed out: it may be reported, and no uncovered call handed it out.
  abbrev pub TicketCovers : Night → Type 0
  TicketCovers N = (t : ℕ) → t ≤ ticket_of (book_of (last_began N) sp) → ¬ Some (λ a. Handed h a.saw sp a.call t) (uncovered N)
      → (j : ℕ) → j ≤ t → ¬ Some (λ a. Handed h a.saw sp a.call j) (uncovered N)

  -- Between operations ---------------------------------------------------------------------------------------------------------------

  -- WHENEVER NOTHING WAITS, all is whole.
  abbrev pub NightWhole : Night → Type 0
  NightWhole N = waiting h sp N ≡ [] → (role : ℕ → Role) × Whole h sp (present N) role

  -- A PAGE SET ASIDE IS NOT WRITTEN at any moment until a report releases it; only the machine marks it. (A report of t releases the numbers below t.)
  abbrev pub NightUnwritten : Night → Night → Type 1
  NightUnwritten N M = (cs : List Act) (gs : List (Event ℕ)) → Onward N M cs gs → waiting h sp N ≡ [] → (p k i : ℕ) → Numbered (present N) sp p k → UpTo k cs → i < 512
      → All (present N) gs (λ x. Remarked sp (at p i) (present N (at p i)) (x (at p i)))

  -- NOR FROM THE MOMENT ON at which no walk that begins reads it: a table, from the write on that unlinks it.
  abbrev pub UnlinkedUnwritten : Night → Night → Type 1
  UnlinkedUnwritten N M = (cs : List Act) (es fs : List (Event ℕ)) → Onward N M cs (es ++ fs) → waiting h sp N ≡ [] → UpTo (ticket_of (book_of (present N) sp)) cs
      → (x : ℕ) → SomeReads (walks h sp) x (present N) → ¬ SomeReads (walks h sp) x (after (present N) es)
      → All (after (present N) es) fs (λ y. Remarked sp x (after (present N) es x) (y x))

  -- After map ----------------------------------------------------------------------------------------------------------------------------

  -- ONCE ITS WRITES HAVE REACHED MEMORY the address means the page.
  abbrev pub MappedNow : Night → Type 0
  MappedNow N = (q : Asked) (va : ℕ) → MappedSince h sp N q va → waiting h sp N ≡ [] → means h sp (present N) va ≡ page_of q

  -- A WALK THAT BEGINS THEN, with nothing that was held before, ends with the page, while no call touches the address. (It has ended before a report goes
  -- beyond the ticket of that moment.)
  abbrev pub FoundAtOnce : Night → Night → Type 1
  FoundAtOnce N M = (cs : List Act) (gs : List (Event ℕ)) → Onward N M cs gs → waiting h sp N ≡ [] → UpTo (ticket_of (book_of (present N) sp)) cs → (va : ℕ) (o : Found) → means h sp (present N) va ≡ o
      → IsPage o → ¬ Hits h sp (Hit h sp) cs va → (p : Position) (o' : Found) → Can (walks h sp) (present N) gs (None (walks h sp)) va p
      → Gives (walks h sp) va p o' → o' ≡ o

  -- AN UPPER ENTRY THAT IS HELD, under which no page was unmapped since the last period began, is on the way of a walk that begins now: who goes on from
  -- it finds what that walk finds. COMPLETE.
  abbrev pub UpperHolds : Night → Type 0
  UpperHolds N = waiting h sp N ≡ [] → (va : ℕ) (p : Position) → Held (walks h sp) untold_kept (history N) va p → IsHalf p.place
      → ((vb : ℕ) → Near p.levels va vb → ¬ Hits h sp (Unmaps h sp) (uncovered N) vb) → On (walks h sp) (present N) va p ((walks h sp).start va)

  -- ELSE a cache may lead to nothing still, and to nothing else. EXACT.
  abbrev pub CachedAfterMap : Night → Type 0
  CachedAfterMap N = (q : Asked) (va : ℕ) (k : MappedSince h sp N q va) → ¬ Hits h sp (Hit h sp) k.earlier va → (o : Found) → Gets h sp untold_kept N va o
      → (o ≡ Nothing) ⊎ (o ≡ page_of q)

  -- AFTER A SHOOTDOWN that began when the address had the page, only the page is given. EXACT.
  abbrev pub KeptAfterReport : Night → Type 0
  KeptAfterReport N = (va : ℕ) (o : Found) → IsPage o → means h sp (last_began N) va ≡ o → ¬ Hits h sp (Hit h sp) (uncovered N) va → (o' : Found) → Gets h sp untold_kept N va o' → o' ≡ o
