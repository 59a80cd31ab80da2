-- Why a container is not put.
use Rattle.std.specs.Prelude.{◌≡◌, Option, Some, None, Result, Ok, Err, if◌then◌else◌}
use Rattle.bts_names.specs.Names.{Name, Bytes}
use Rattle.bts_container.specs.Containers.{Containers, is_long, has_no_room}
use Rattle.bts_container.specs.declared.put_error.PutError.{PutError}
use Rattle.bts_container.specs.declared.put_error.PutError.TheVariants as put_error

abbrev pub refusal_of_put : Name → Bytes → Containers → Option PutError
refusal_of_put n bytes x =
    if is_long bytes x.format then Some put_error.Long
    else if has_no_room n x then Some put_error.Limit
    else None

-- refused exactly so, and else done or out of memory
abbrev pub Answers : Result (Unit {0}) PutError → Option PutError → Type 0
Answers (Ok x) why = why ≡ None
Answers (Err put_error.NoMemory) why = why ≡ None
Answers (Err put_error.Long) why = why ≡ Some put_error.Long
Answers (Err put_error.Limit) why = why ≡ Some put_error.Limit
