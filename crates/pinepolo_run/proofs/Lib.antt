mod LowStatuses
