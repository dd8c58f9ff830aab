-- A call hands back what the call behind it answered, in numbers.
use Prim.Native.Nat.{ℕ}
use mathlib.Core.Path.{◌≡◌, ap, ◌∙◌}
use mathlib.Core.List.{List}
use lib.IntN.{ℤ}
use Rattle.rules.specs.Reply.{code_of}
use Rattle.rules.specs.Handle.{Answer, answered, answered_by}
use Rattle.rules.specs.Left.{Left, left}
use Rattle.rules.specs.Tables.{all_tables, tables_of}
use Rattle.rules.specs.Writing.{TextLeft, text_left}
use Rattle.rules.specs.declared.Reply.{Reply}
use Rattle.velichundam.specs.HandedBack.{in_numbers, code_from, handed_back, handed_back_all, in_numbers_with, handed_back_with, in_numbers_text, handed_back_text}

pub handed : {kind first second third : ℤ} {reply : Reply} {records positions : List ℤ} {a : Answer}
    → code_from kind first second third ≡ code_of reply → answered reply records positions ≡ a
    → handed_back kind first second third records positions ≡ in_numbers a
handed {records = records} {positions = positions} code answer =
    ap (λ k. record { code = k; tables = tables_of records positions }) code ∙ ap in_numbers answer

-- With the process table.
pub handed-all : {kind first second third : ℤ} {reply : Reply} {records positions processes : List ℤ} {a : Answer}
    → code_from kind first second third ≡ code_of reply → answered_by reply (all_tables records positions processes) ≡ a
    → handed_back_all kind first second third records positions processes ≡ in_numbers a
handed-all {records = records} {positions = positions} {processes = processes} code answer =
    ap (λ k. record { code = k; tables = all_tables records positions processes }) code ∙ ap in_numbers answer

-- With a lent output.
pub handed-with : {kind first second third : ℤ} {reply : Reply} {output records positions : List ℤ} {l : Left}
    → code_from kind first second third ≡ code_of reply → left reply output records positions ≡ l
    → handed_back_with kind first second third output records positions ≡ in_numbers_with l
handed-with {output = output} {records = records} {positions = positions} code leaves =
    ap (λ k. record { code = k; output = output; tables = tables_of records positions }) code ∙ ap in_numbers_with leaves

-- Of a writing call: the bytes of the buffer.
pub handed-text : {kind first second third : ℤ} {reply : Reply} {text : List ℕ} {l : TextLeft} → code_from kind first second third ≡ code_of reply → text_left reply text ≡ l →
    handed_back_text kind first second third text ≡ in_numbers_text l
handed-text {text = text} code leaves = ap (λ k. record { code = k; text = text }) code ∙ ap in_numbers_text leaves
