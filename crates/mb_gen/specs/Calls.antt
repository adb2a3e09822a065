-- The calls of a generated job, by what is drawn for their words: each is a row of a table (this project's choice).
use Rattle.std.specs.Prelude.{List, [], ◌∷◌, ◌++◌, ℕ, zero, suc, ◌+◌, ◌==◌, pos, codes, decimal, replicate, if◌then◌else◌}
use Rattle.mb_kinds.specs.declared.calls.Call.TheVariants.{Open, Creat, Close, Read, Write, Lseek, Unlink, Stat}
use Rattle.mb_kinds.specs.declared.calls.How.TheVariants.{Both}
use Rattle.mb_kinds.specs.declared.calls.Whence.TheVariants.{Start}
use Rattle.mb_jobs.specs.declared.jobs.JobCall.{JobCall}
use Rattle.mb_gen.specs.Draws.{drawn, of_one, of_three, of_two}

-- a name of the root directory, `/g0` to `/g15`
abbrev pub name_of : ℕ → List ℕ
name_of number = codes "/g" ++ decimal number

-- a descriptor, 3 to 6
abbrev pub fd_of : ℕ → ℕ
fd_of number = 3 + number

-- `creat /gN 644`; the mode is octal
abbrev pub creat_call : ℕ → ℕ → JobCall
creat_call caller name = record { caller = caller; text = codes "creat /g" ++ decimal name ++ codes " 644"; call = Creat (name_of name) 420 }

-- `open /gN rw`
abbrev pub open_call : ℕ → ℕ → JobCall
open_call caller name = record { caller = caller; text = codes "open /g" ++ decimal name ++ codes " rw"; call = Open (name_of name) Both }

-- `fill F C B`
abbrev pub fill_call : ℕ → ℕ → ℕ → ℕ → JobCall
fill_call caller fd count byte = record {
  caller = caller;
  text = codes "fill " ++ decimal (fd_of fd) ++ codes " " ++ decimal count ++ codes " " ++ decimal byte;
  call = Write (fd_of fd) (replicate count byte);
}

-- `read F C`
abbrev pub read_call : ℕ → ℕ → ℕ → JobCall
read_call caller fd count = record { caller = caller; text = codes "read " ++ decimal (fd_of fd) ++ codes " " ++ decimal count; call = Read (fd_of fd) count }

-- `close F`
abbrev pub close_call : ℕ → ℕ → JobCall
close_call caller fd = record { caller = caller; text = codes "close " ++ decimal (fd_of fd); call = Close (fd_of fd) }

-- `unlink /gN`
abbrev pub unlink_call : ℕ → ℕ → JobCall
unlink_call caller name = record { caller = caller; text = codes "unlink /g" ++ decimal name; call = Unlink (name_of name) }

-- `stat /gN`
abbrev pub stat_call : ℕ → ℕ → JobCall
stat_call caller name = record { caller = caller; text = codes "stat /g" ++ decimal name; call = Stat (name_of name) }

-- `lseek F O 0`
abbrev pub lseek_call : ℕ → ℕ → ℕ → JobCall
lseek_call caller fd offset = record {
  caller = caller;
  text = codes "lseek " ++ decimal (fd_of fd) ++ codes " " ++ decimal offset ++ codes " 0";
  call = Lseek (fd_of fd) (pos offset) Start;
}

-- the table: a caller's call of a row from 0 to 7, its words drawn in their order
abbrev pub row_drawn : {G : Type 0} → (G → ℕ × G) → ℕ → ℕ → G → JobCall × G
row_drawn step caller row draws =
    if row == 0 then of_one step 16 (creat_call caller) draws
    else if row == 1 then of_one step 16 (open_call caller) draws
    else if row == 2 then of_three step 4 512 256 (fill_call caller) draws
    else if row == 3 then of_two step 4 512 (read_call caller) draws
    else if row == 4 then of_one step 4 (close_call caller) draws
    else if row == 5 then of_one step 16 (unlink_call caller) draws
    else if row == 6 then of_one step 16 (stat_call caller) draws
    else of_two step 4 8192 (lseek_call caller) draws

-- one call: first its caller is drawn, then its row
abbrev pub call_drawn : {G : Type 0} → (G → ℕ × G) → G → JobCall × G
call_drawn step draws =
    let caller = drawn step 2 draws in
    let row = drawn step 8 caller.1 in
    row_drawn step caller.0 row.0 row.1

-- so many calls, one after another
unfoldable pub calls_drawn : {G : Type 0} → (G → ℕ × G) → ℕ → G → List JobCall × G
calls_drawn step zero draws = ([], draws)
calls_drawn step (suc count) draws =
    let before = calls_drawn step count draws in
    let last = call_drawn step before.1 in
    (before.0 ++ last.0 ∷ [], last.1)
