-- A list of calls, made one after the other.
use Rattle.std.specs.Prelude.{List, [], ◌∷◌}
use Rattle.rules.specs.Tables.{Tables}
use Rattle.rules.specs.Handle.{Answer}
use Rattle.rules.specs.Call.{Call, handle_call}
use Rattle.rules.specs.declared.Reply.{Reply}

-- Every reply in turn, and the tables at the end.
pub record Run : Type 0 where
  pub replies : List Reply
  pub tables : Tables

unfoldable pub after_reply : Reply → Run → Run
after_reply reply later = record { replies = reply ∷ later.replies; tables = later.tables }

unfoldable pub run : Tables → List Call → Run
run t [] = record { replies = []; tables = t }
run t (c ∷ rest) =
    let a : Answer = handle_call t c in
    after_reply a.reply (run a.tables rest)
