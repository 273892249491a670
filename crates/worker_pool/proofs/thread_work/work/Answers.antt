use Rattle.worker_pool.proofs.thread_work.work.Goals as goal

pub returns-in-Err : goal.returns-in-Err
returns-in-Err g c = record { v = c.work_on.new.worker; stopped = c.in-Err.ensures.stopped }
