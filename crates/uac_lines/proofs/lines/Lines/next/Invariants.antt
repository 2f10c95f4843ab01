use Rattle.std.proofs.Common.{◌≡◌, ◌+◌, ◌-◌, ◌≤◌, ◌++◌, ℕ, List, length, None}
use Rattle.std.specs.Io.KnownBytes.{Consumes}
use Rattle.uac_lines.specs.ScriptLines.{most_of_input, IsDecided, StopsAtLine, head_of}
use Rattle.uac_lines.specs.Looking.{line_end}
use Rattle.uac_lines.proofs.lines.Lines.next.Given as goal

-- Nothing changed but that bytes were taken, of which the first have no newline. The source was called only where they
-- didn't tell what stands first, and met no fault.
abbrev pub invariant-loop-size : goal.invariant-loop-size
invariant-loop-size g l = record {
  taken : List ℕ;
  consumed : Consumes (g.S.Source.left l.fn.source) (g.S.Source.left l.source) taken;
  prompt : StopsAtLine l.fn.self.spare l.fn.self.unread taken;
  same : l.self ≡ record l.fn.self { unread = l.fn.self.unread ++ taken };
  going : l.self.stop ≡ None;
  bounded : l.self.spare ≤ most_of_input;
  within : length l.self.unread ≤ l.self.spare + 1;
  known : l.searched ≤ line_end l.self.unread;
  counted : l.searched ≤ l.self.spare;
  told : IsDecided (head_of l.fn.self.spare l.fn.self.unread) → l.source ≡ l.fn.source;
  faultless : g.S.Source.faults l.source ≡ g.S.Source.faults l.fn.source;
}

abbrev pub decreases-loop-size : goal.decreases-loop-size
decreases-loop-size g l = l.self.spare + 1 - length l.self.unread
