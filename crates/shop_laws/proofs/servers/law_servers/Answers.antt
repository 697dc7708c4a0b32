-- Each server is free or serves one job.
use Rattle.shop_laws.proofs.ServersLaw.{servers_law, beginnings_law}
use Rattle.shop_laws.proofs.servers.law_servers.Goals as goal

pub returns : goal.returns
returns c = record { servers = servers_law; beginnings = beginnings_law }
