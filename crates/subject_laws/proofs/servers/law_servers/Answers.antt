-- Servers keep their count, and none idles while a job waits.
use Rattle.subject_laws.proofs.QueueLemmas.ServersLaw.{servers_law}
use Rattle.subject_laws.proofs.servers.law_servers.Goals as goal

pub returns : goal.returns
returns c = servers_law
