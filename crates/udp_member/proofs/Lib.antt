mod RoundsCompose
