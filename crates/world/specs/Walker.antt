-- A walker goes down through cells of memory, one step at a time, and each step reads one cell at most. What cells and words are, what they
-- say, which answers there are, how many levels, and how an address says of which address space it is, are parameters.
use Rattle.std.specs.Prelude.{◌≡◌, ◌⊎◌, ℕ, zero, suc}

-- what a step reads
pub data Next : Type 0 where
  nowhere : Next
  cell : ℕ → Next

-- A WALKER. An address has a place where its walk starts; a step goes from place to place, in the memory of that moment.
pub record Walker (Word View Address Place Answer : Type 0) : Type 1 where
  -- what of a word a walk can tell
  pub see : Word → View
  pub start : Address → Place
  -- how many steps are left
  pub left : Place → ℕ
  -- what the next step reads
  pub reads : Address → Place → Next
  pub step : (ℕ → Word) → Address → Place → Place
  -- what a walk comes to, where no step is left
  pub answer : Place → Answer
  -- the two addresses have one prefix, as far as a walk uses it that has so many steps left
  pub Alike : ℕ → Address → Address → Type 0

module _ {Word View Address Place Answer : Type 0} (W : Walker Word View Address Place Answer) where
  open W use {see, start, left, reads, step, answer, Alike}

  -- so many steps
  unfoldable pub run : (ℕ → Word) → Address → ℕ → Place → Place
  run m va zero p = p
  run m va (suc k) p = run m va k (step m va p)

  -- what a walk comes to from a place, if memory stays
  abbrev pub finish : (ℕ → Word) → Address → Place → Answer
  finish m va p = answer (run m va (left p) p)

  -- THE MEANING of an address: the whole walk, in one memory.
  abbrev pub meaning : (ℕ → Word) → Address → Answer
  meaning m va = finish m va (start va)

  -- a walk at this place comes to o, whatever happens
  abbrev pub Gives : Address → Place → Answer → Type 0
  Gives va p o = (m : ℕ → Word) → finish m va p ≡ o

  -- one of the next k steps reads x
  unfoldable pub ReadsIn : (ℕ → Word) → Address → ℕ → Place → ℕ → Type 0
  ReadsIn m va zero p x = ⊥
  ReadsIn m va (suc k) p x = (reads va p ≡ cell x) ⊎ ReadsIn m va k (step m va p) x

  -- one of them reads x, and one before it reads a
  unfoldable pub BelowIn : (ℕ → Word) → Address → ℕ → Place → ℕ → ℕ → Type 0
  BelowIn m va zero p a x = ⊥
  BelowIn m va (suc k) p a x = ((reads va p ≡ cell a) × ReadsIn m va k (step m va p) x) ⊎ BelowIn m va k (step m va p) a x

  -- what is left of the walk reads x; and a before it
  abbrev pub Reads : (ℕ → Word) → Address → Place → ℕ → Type 0
  Reads m va p x = ReadsIn m va (left p) p x

  abbrev pub Below : (ℕ → Word) → Address → Place → ℕ → ℕ → Type 0
  Below m va p a x = BelowIn m va (left p) p a x

  -- On m va p q: p is a place of the way from q, all of it in the memory m.
  pub data On (m : ℕ → Word) (va : Address) (p : Place) : Place → Type 0 where
    here : On m va p p
    down : {q : Place} → On m va p (step m va q) → On m va p q

  -- two memories that no walk can tell apart
  abbrev pub LooksAlike : (ℕ → Word) → (ℕ → Word) → Type 0
  LooksAlike m m' = (x : ℕ) → see (m' x) ≡ see (m x)

  -- ITS LAWS. The theorems ask them of any walker; they are proved of the walker of page tables.
  pub record WalkerLaws : Type 0 where
    -- A step depends on what it can tell of the one word that it reads.
    pub local : (m m' : ℕ → Word) (va : Address) (p : Place) → ((c : ℕ) → reads va p ≡ cell c → see (m c) ≡ see (m' c))
        → step m va p ≡ step m' va p
    -- Each step is one step less, and where none is left a walk stays.
    pub falls : (m : ℕ → Word) (va : Address) (p : Place) (n : ℕ) → left p ≡ suc n → left (step m va p) ≡ n
    pub rests : (m : ℕ → Word) (va : Address) (p : Place) → left p ≡ 0 → step m va p ≡ p
    -- A shorter prefix is shared by more; addresses with one prefix start at one place and take the same steps.
    pub alike_refl : (n : ℕ) (va : Address) → Alike n va va
    pub alike_trans : (n : ℕ) (va vb vc : Address) → Alike n va vb → Alike n vb vc → Alike n va vc
    pub alike_up : (n : ℕ) (va vb : Address) → Alike n va vb → Alike (suc n) va vb
    pub alike_start : (va vb : Address) → Alike (left (start va)) va vb → start va ≡ start vb
    pub alike_step : (m : ℕ → Word) (va vb : Address) (p : Place) (n : ℕ) → left p ≡ suc n → Alike n va vb → step m va p ≡ step m vb p
