mod OwnFaults
