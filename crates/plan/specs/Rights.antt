-- The rights that no page gets.
use Rattle.std.specs.Prelude.{Bool, not, ◌&&◌}
use Rattle.entry.specs.declared.Rights.{Rights}

-- a page with these rights could be written and executed
unfoldable pub write_execute : Rights → Bool
write_execute r = r.writable && not r.noexec
