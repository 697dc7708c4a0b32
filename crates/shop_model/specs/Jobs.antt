-- Jobs, as the two numbers of an event name them.
use Rattle.std.specs.Prelude.{ℕ, ◌+◌, ◌*◌, ◌/◌, ◌%◌, ◌^◌}
use Rattle.shop_model.specs.declared.job.TheConstants.{JOBS_A_CLASS}

-- the first number is a step and an id, which is a class and a number in it
abbrev pub id_of : ℕ → ℕ
id_of a = a % 2 ^ 40

abbrev pub step_of : ℕ → ℕ
step_of a = a / 2 ^ 40

abbrev pub class_of : ℕ → ℕ
class_of a = id_of a / JOBS_A_CLASS

abbrev pub number_of : ℕ → ℕ
number_of a = id_of a % JOBS_A_CLASS

-- the second number is a server and the tick of the make
abbrev pub server_of : ℕ → ℕ
server_of b = b / 2 ^ 48

abbrev pub birth_of : ℕ → ℕ
birth_of b = b % 2 ^ 48

abbrev pub job_at : ℕ → ℕ → ℕ
job_at step id = step * 2 ^ 40 + id

abbrev pub served_by : ℕ → ℕ → ℕ
served_by server birth = server * 2 ^ 48 + birth
