-- What is left of a walk follows what was left: it comes to the same, and reads nothing else.
use Rattle.std.specs.Prelude.{◌≡◌, ℕ}
use Rattle.world.specs.Walker.{Walker, finish, Reads}

module _ {Word View Address Place Answer : Type 0} (W : Walker Word View Address Place Answer) where
  -- From p in m a walk comes to what it comes to from q in m', and it reads no other cells.
  pub record Follows (va : Address) (m : ℕ → Word) (p : Place) (m' : ℕ → Word) (q : Place) : Type 0 where
    pub comes : finish W m va p ≡ finish W m' va q
    pub within : (x : ℕ) → Reads W m va p x → Reads W m' va q x
